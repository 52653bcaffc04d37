-- A zero equals +0, whatever its sign and however it is written; and a number that is no zero is not 0 in units of any size. Assumes nothing.
use mathlib.Core.Path.{◌≡◌}
use mathlib.Core.Bool.{Bool, true, false}
use Prim.Native.Nat.{ℕ, zero, suc, ◌*◌, ◌<◌}
use native.Mathlib.Omega.{arith}
use native.Mathlib.Nat.{zero-mul, mul-pos}
use lib.IntN.{ℤ}
use lib.Ieee.{fin, binary64, of_bits, eq, up}
use lib.Ieee.Fits.{up_pos}

-- a positive number times a power of two
pub scaled_pos : (m : ℕ) (e : ℤ) → 0 < suc m * up e
scaled_pos m e = mul-pos (omega arith) (up_pos e)

pub zero-level : (s : Bool) (e : ℤ) → eq (fin s zero e) (of_bits binary64 0) ≡ true
unfolding eq of_bits
zero-level true e = simp zero-mul
zero-level false e = simp zero-mul
