-- Square roots, quotients and normalising by value, where +0 and -0 are one: what they give depends on the value alone of the number or vector that is taken.
-- Of the divisor it does not hold, since 1 / +0 and 1 / -0 are two infinities; a length that is divided by is not below 3e-11, so no zero. Assumes nothing.
use mathlib.Core.Path.{◌≡◌, refl, sym, ap, ◌∙◌}
use mathlib.Core.Logic.{inl, inr}
use mathlib.Core.Bool.{Bool, true, false, cond}
use Prim.Native.Nat.{ℕ, zero, suc, ◌*◌}
use lib.IntN.{pos}
use lib.Dec.{T, eqb}
use lib.Ieee.{Float, nan, inf, fin, binary64, up, down, unlike, round, div, lt}
use Rattle.ieee754.specs.Value.{Value, vnan, vzero, value, is_zero, Alike}
use Rattle.ieee754.proofs.Rounding.{round_zero}
use Rattle.ieee754.proofs.ByValue.{alike_value, value_alike, zero_times}
use Rattle.sphericalpoint.specs.declared.SphericalPoint.{SphericalPoint}
use Rattle.square_root.specs.Sqrt.{sqrt_of}
use Rattle.sphericalpoint.specs.Vector.{equality_tolerance, xyz_div, xyz_length, normalized}
use Rattle.sphericalpoint.specs.Point.{pick_point, normalized_unless_short}
use Rattle.sphericalpoint.proofs.VectorValues.{Like, like, like_value, like_same, like_refl, like_lt, Same, same_mul, same_sum}

-- ---- square roots

root_of_zero : (x : Float) → T (is_zero x) → T (is_zero (sqrt_of x))
unfolding sqrt_of
root_of_zero nan t = absurd t
root_of_zero (inf s) t = absurd t
root_of_zero (fin s zero e) t = tt
root_of_zero (fin s (suc n) e) t = absurd t

pub like_sqrt : {x y : Float} → Like x y → Like (sqrt_of x) (sqrt_of y)
like_sqrt {x} {y} (like p) = go (value_alike x y p)
  where
    go : Alike x y → Like (sqrt_of x) (sqrt_of y)
    go (inl e) = like_same (ap sqrt_of e)
    go (inr z) = like (alike_value (sqrt_of x) (sqrt_of y) (inr (root_of_zero x z.0, root_of_zero y z.1)))

-- ---- quotients

zero_over : Float → Value
zero_over nan = vnan
zero_over (inf t) = vzero
zero_over (fin t n d) = cond (eqb n 0) vnan vzero

zero_over_lem : (x d : Float) → T (is_zero x) → value (div binary64 x d) ≡ zero_over d
unfolding div zero_over
zero_over_lem nan d t = absurd t
zero_over_lem (inf s) d t = absurd t
zero_over_lem (fin s (suc m) e) d t = absurd t
zero_over_lem (fin s zero e) nan t = refl
zero_over_lem (fin s zero e) (inf r) t = refl
zero_over_lem (fin s zero e) (fin r n d) t = go (eqb n 0)
  where
    go : (b : Bool) → value (cond b nan (round binary64 (unlike s r) (0 * up e * down d) (n * up d * down e))) ≡ cond b vnan vzero
    go true = refl
    go false = ap (λ (k : ℕ). value (round binary64 (unlike s r) k (n * up d * down e))) (zero_times (up e) (down d))
        ∙ round_zero binary64 (unlike s r) (n * up d * down e)

pub like_div : {x y : Float} (d : Float) → Like x y → Like (div binary64 x d) (div binary64 y d)
like_div {x} {y} d (like p) = go (value_alike x y p)
  where
    go : Alike x y → Like (div binary64 x d) (div binary64 y d)
    go (inl e) = like_same (ap (λ (z : Float). div binary64 z d) e)
    go (inr z) = like (zero_over_lem x d z.0 ∙ sym (zero_over_lem y d z.1))

-- ---- normalising

pub same_length : {u v : SphericalPoint} → Same u v → Like (xyz_length u) (xyz_length v)
unfolding xyz_length
same_length s = like_sqrt (same_sum (same_mul s s))

same_divided : {u v : SphericalPoint} (d : Float) → Same u v → Same (xyz_div u d) (xyz_div v d)
unfolding xyz_div
same_divided d s = record { x = like_div d s.x; y = like_div d s.y; z = like_div d s.z }

zero_below : lt (fin false 0 (pos 0)) equality_tolerance ≡ true
unfolding lt equality_tolerance round
zero_below = refl

zero_is_short : (x : Float) → T (is_zero x) → lt x equality_tolerance ≡ true
zero_is_short x t = like_lt (like (alike_value x (fin false 0 (pos 0)) (inr (t, tt)))) (like_refl equality_tolerance) ∙ zero_below

same_picked : {u v p q : SphericalPoint} (b : Bool) → Same u v → Same p q → Same (pick_point b u p) (pick_point b v q)
same_picked true s r = s
same_picked false s r = r

pub same_normalized : {u v : SphericalPoint} → Same u v → Same (normalized_unless_short u) (normalized_unless_short v)
unfolding normalized_unless_short normalized
same_normalized {u} {v} s = go (value_alike (xyz_length u) (xyz_length v) (like_value (same_length s)))
  where
    go : Alike (xyz_length u) (xyz_length v) → Same (normalized_unless_short u) (normalized_unless_short v)
    go (inl e) =
        rw (← e) (same_picked (lt (xyz_length u) equality_tolerance) s (same_divided (xyz_length u) s))
    go (inr z) = rw (zero_is_short (xyz_length u) z.0, zero_is_short (xyz_length v) z.1) s
