-- What is claimed of the square root `sqrt_of`, and of the whole root `isqrt`. Definitions only. The proofs are `sqrt_nearest` and `nearest_root_unique` of
-- `proofs/NearestLaw.antt`, `roots_elsewhere` and `known_roots` of `proofs/KnownRoots.antt`, `isqrt_floor` and `isqrt_unique` of
-- `proofs/WholeRoots.antt`. How far the root's square is from x is `RootClose` of NearestRoot.antt.
use Rattle.std.specs.Prelude.{◌≡◌, true, false, ℕ, pos, negsuc, T, Float}
use Rattle.std.specs.Float.{nan, inf, fin, binary64}
use Rattle.std.specs.Float.Ieee.{lt, fits}
use Rattle.ieee754.specs.Units.{not_negative}
use Rattle.ieee754.specs.Value.{is_zero}
use Rattle.square_root.specs.Sqrt.{isqrt, sqrt_of}
use Rattle.square_root.specs.NearestRoot.{NearestRoot}
use Rattle.square_root.specs.RootStep.{WholeRoot}

-- ---- the root of a float

-- Of every finite `f64` from 0 up it is the nearest `f64` to √x,
abbrev pub SqrtNearest : Type 0
SqrtNearest = (x : Float) → T (fits binary64 x) → T (not_negative x) → NearestRoot x (sqrt_of x)

-- and no other float is.
abbrev pub NearestRootUnique : Type 0
NearestRootUnique = (x r t : Float) → NearestRoot x r → NearestRoot x t → r ≡ t

-- Where no root is worked out: a zero of either sign is its own root, sign and all, and so is the infinity above zero; what is below zero, a number or the
-- infinity, has a NaN, and so has a NaN.
pub record RootsElsewhere : Type 0 where
  pub zero_itself : (x : Float) → T (is_zero x) → sqrt_of x ≡ x
  pub infinity_itself : sqrt_of (inf false) ≡ inf false
  pub below_zero : (x : Float) → lt x (fin false 0 (pos 0)) ≡ true → sqrt_of x ≡ nan
  pub nan_itself : sqrt_of nan ≡ nan

-- some roots, each computed: of the zeros, 1/4, 1, 2, 4, the smallest float, the infinities, a number below zero and a NaN
pub record KnownRoots : Type 0 where
  pub root_of_zero : sqrt_of (fin false 0 (pos 0)) ≡ fin false 0 (pos 0)
  pub root_of_minus_zero : sqrt_of (fin true 0 (pos 0)) ≡ fin true 0 (pos 0)
  pub root_of_a_quarter : sqrt_of (fin false 1 (negsuc 1)) ≡ fin false 1 (negsuc 0)
  pub root_of_one : sqrt_of (fin false 1 (pos 0)) ≡ fin false 1 (pos 0)
  -- 0x16a09e667f3bcd * 2 ^ -52
  pub root_of_two : sqrt_of (fin false 1 (pos 1)) ≡ fin false 0x16a09e667f3bcd (negsuc 51)
  pub root_of_four : sqrt_of (fin false 1 (pos 2)) ≡ fin false 1 (pos 1)
  -- the root of 2 ^ -1074 is 2 ^ -537
  pub root_of_smallest : sqrt_of (fin false 1 (negsuc 1073)) ≡ fin false 1 (negsuc 536)
  pub root_of_infinity : sqrt_of (inf false) ≡ inf false
  pub root_of_minus_infinity : sqrt_of (inf true) ≡ nan
  pub root_of_minus_one : sqrt_of (fin true 1 (pos 0)) ≡ nan
  pub root_of_nan : sqrt_of nan ≡ nan

-- ---- the root of a whole number

-- Its square is at most n and the next number's is above n,
abbrev pub WholeRootFloor : Type 0
WholeRootFloor = (n : ℕ) → WholeRoot n (isqrt n)

-- and there is no other such number.
abbrev pub WholeRootUnique : Type 0
WholeRootUnique = (n r : ℕ) → WholeRoot n r → isqrt n ≡ r
