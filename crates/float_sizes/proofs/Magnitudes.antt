-- The larger of x and -x has the value of x's size. Assumes nothing.
use mathlib.Core.Path.{◌≡◌, refl, sym}
use mathlib.Core.Bool.{true, false}
use Prim.Native.Nat.{ℕ, zero, suc, ◌+◌, ◌*◌, ◌<◌}
use native.Mathlib.Omega.{arith}
use native.Mathlib.Nat.{mul-pos}
use lib.IntN.{ℤ}
use lib.Ieee.{Float, nan, inf, fin, neg, lt, up, down}
use lib.Ieee.Fits.{up_pos, down_pos}
use borrow.Author.Tests.{ltb-false}
use Rattle.ieee754.proofs.Tests.{never}
use Rattle.ieee754.specs.Size.{abs}
use Rattle.ieee754.specs.Value.{value}

some : (m : ℕ) (e : ℤ) → 0 < suc m * up e * down e
some m e = mul-pos (mul-pos (omega arith) (up_pos e)) (down_pos e)

pub upper : (x : Float) → lt (neg x) x ≡ true → value x ≡ value (abs x)
unfolding lt neg abs
upper nan h = refl
upper (inf true) h = never h
upper (inf false) h = refl
upper (fin false m e) h = refl
upper (fin true m e) h = never h

pub lower : (x : Float) → lt (neg x) x ≡ false → value (neg x) ≡ value (abs x)
unfolding lt neg abs
lower nan h = refl
lower (inf true) h = refl
lower (inf false) h = never (sym h)
lower (fin true m e) h = refl
lower (fin false zero e) h = refl
lower (fin false (suc m) e) h = absurd (omega (arith, ltb-false 0 (suc m * up e * down e + suc m * up e * down e) h, some m e))
