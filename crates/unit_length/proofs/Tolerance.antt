-- 3e-11 lies between 2 ^ -35 and 2 ^ -34, so a length that is not below it is 2 ^ 1039 units or more, and one of 2 ^ 1040 units is not below it. Assumes
-- nothing.
use mathlib.Core.Path.{◌≡◌, refl, sym, ap, subst}
use mathlib.Core.Bool.{Bool, true, false, not}
use Prim.Native.Nat.{ℕ, ◌*◌, ◌^◌, ◌≤◌, ◌<◌}
use native.Mathlib.Nat.{le_trans, mul-lt-mul_of_pos_right, mul-le-mul_right, le_of_mul-le-mul_right}
use native.Mathlib.Omega.{arith}
use lib.IntN.{ℤ, negsuc}
use lib.Dec.{T, ltb, nltb→le, ltb→lt, lit≤}
use lib.Pow.{pow_pos}
use lib.Ieee.{Float, nan, inf, fin, binary64, up, down, lt, fits, round}
use lib.Ieee.Fits.{down_pos}
use Rattle.ieee754.specs.Units.{not_negative}
use Rattle.ieee754.proofs.Units.{exact_units}
use Rattle.sphericalpoint.specs.Vector.{equality_tolerance}
use Rattle.square_root.specs.NearestRoot.{in_units}

abbrev tolerance : Float
tolerance = fin false 0x107e1fe91b0b7 (negsuc 82)

tolerance_is : equality_tolerance ≡ tolerance
unfolding equality_tolerance round
tolerance_is = refl

-- n / d as a number of units w of 1 / m, against c / k
no_less : (n d m w c k : ℕ) → 0 < d → n * m ≡ w * d → c * d ≤ n * k → c * m ≤ w * k
no_less n d m w c k D e h =
    le_of_mul-le-mul_right {m = c * m} {n = w * k} (omega (arith, mul-le-mul_right m h, ap (λ (z : ℕ). z * k) e)) D

long_at : (n : ℕ) (d : ℤ) → T (fits binary64 (fin false n d)) → T (not (lt (fin false n d) tolerance)) → 2 ^ 1039 ≤ in_units (fin false n d)
unfolding lt
long_at n d F h =
    let l : 0x107e1fe91b0b7 * 1 * down d ≤ n * up d * 2 ^ 83 = nltb→le (n * up d * 2 ^ 83) (0x107e1fe91b0b7 * 1 * down d) h in
    let g = no_less (n * up d) (down d) (2 ^ 1074) (in_units (fin false n d)) (0x107e1fe91b0b7 * 1) (2 ^ 83) (down_pos d)
    (exact_units binary64 false n d F) l in
    le_of_mul-le-mul_right (le_trans (lit≤ {m = 2 ^ 1039 * 2 ^ 83} {n = 0x107e1fe91b0b7 * 1 * 2 ^ 1074} tt) g) (pow_pos 83)

-- a length is not negative, so the sign is not in the way
pub long_units : (l : Float) → T (fits binary64 l) → T (not_negative l) → T (not (lt l equality_tolerance)) → 2 ^ 1039 ≤ in_units l
long_units nan F p h = absurd p
long_units (inf s) F p h = absurd p
long_units (fin true n d) F p h = absurd p
long_units (fin false n d) F p h = long_at n d F (subst (λ (t : Float). T (not (lt (fin false n d) t))) tolerance_is h)

-- and 2 ^ -34 is above 3e-11
more : (n d m w c k : ℕ) → 0 < m → n * m ≡ w * d → c * m ≤ w * k → n * k < c * d → ⊥
more n d m w c k M e g l = omega (arith, mul-le-mul_right d g, mul-lt-mul_of_pos_right l M, ap (λ (z : ℕ). z * k) e)

not_short : (n : ℕ) (d : ℤ) → T (fits binary64 (fin false n d)) → 2 ^ 1040 ≤ in_units (fin false n d) → T (not (lt (fin false n d) tolerance))
unfolding lt
not_short n d F h = go (ltb (n * up d * 2 ^ 83) (0x107e1fe91b0b7 * 1 * down d)) (ltb→lt (n * up d * 2 ^ 83) (0x107e1fe91b0b7 * 1 * down d))
  where
    enough : 0x107e1fe91b0b7 * 1 * 2 ^ 1074 ≤ in_units (fin false n d) * 2 ^ 83
    enough = le_trans (lit≤ {m = 0x107e1fe91b0b7 * 1 * 2 ^ 1074} {n = 2 ^ 1040 * 2 ^ 83} tt) (mul-le-mul_right (2 ^ 83) h)

    go : (b : Bool) → (T b → n * up d * 2 ^ 83 < 0x107e1fe91b0b7 * 1 * down d) → T (not b)
    go true k =
        let e = exact_units binary64 false n d F in
        absurd (more (n * up d) (down d) (2 ^ 1074) (in_units (fin false n d)) (0x107e1fe91b0b7 * 1) (2 ^ 83) (pow_pos 1074) e enough (k tt))
    go false k = tt

pub units_long : (l : Float) → T (fits binary64 l) → T (not_negative l) → 2 ^ 1040 ≤ in_units l → T (not (lt l equality_tolerance))
units_long nan F p h = absurd p
units_long (inf s) F p h = absurd p
units_long (fin true n d) F p h = absurd p
units_long (fin false n d) F p h = subst (λ (t : Float). T (not (lt (fin false n d) t))) (sym tolerance_is) (not_short n d F h)
