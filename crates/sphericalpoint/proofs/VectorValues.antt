-- Vectors by value, where +0 and -0 are one: what a cross product, a dot product, a negation and `xyz_eq` give depends on the operands' values alone,
-- and a negation goes through each of them. For all floats, NaN and the infinities included. Assumes nothing.
use mathlib.Core.Path.{◌≡◌, refl, sym, ap, ap₂, ◌∙◌}
use lib.Ieee.{Float, binary64, add, sub, mul, neg, lt}
use Rattle.ieee754.specs.Value.{value}
use Rattle.ieee754.specs.Size.{abs}
use Rattle.ieee754.proofs.Arithmetic.{neg_neg, abs_neg, mul_comm, mul_neg_left, mul_neg_right}
use Rattle.ieee754.proofs.ByValue.{add-value, mul-value, sub-value, neg_value, abs-value, neg_add, neg_sub, sub-swap}
use Rattle.ieee754.proofs.Comparisons.{lt-value}
use Rattle.sphericalpoint.specs.declared.SphericalPoint.{SphericalPoint}
use Rattle.sphericalpoint.specs.Vector.{equality_tolerance, xyz_sub, xyz_mul, xyz_neg, xyz_abs, xyz_sum, xyz_dot, xyz_cross, xyz_eq}

-- ---- floats of the same value
pub data Like (x y : Float) : Type 0 where
  like : value x ≡ value y → Like x y

pub like_value : {x y : Float} → Like x y → value x ≡ value y
like_value (like p) = p

pub like_refl : (x : Float) → Like x x
like_refl x = like refl

pub like_same : {x y : Float} → x ≡ y → Like x y
like_same p = like (ap value p)

pub like_sym : {x y : Float} → Like x y → Like y x
like_sym (like p) = like (sym p)

pub like_trans : {x y z : Float} → Like x y → Like y z → Like x z
like_trans (like p) (like q) = like (p ∙ q)

pub like_neg : {x y : Float} → Like x y → Like (neg x) (neg y)
like_neg {x} {y} (like p) = like (neg_value x y p)

pub like_abs : {x y : Float} → Like x y → Like (abs x) (abs y)
like_abs {x} {y} (like p) = like (abs-value x y p)

module _ {x x' y y' : Float} where
  pub like_add : Like x x' → Like y y' → Like (add binary64 x y) (add binary64 x' y')
  like_add (like p) (like q) = like (add-value binary64 x x' y y' p q)

  pub like_sub : Like x x' → Like y y' → Like (sub binary64 x y) (sub binary64 x' y')
  like_sub (like p) (like q) = like (sub-value binary64 x x' y y' p q)

  pub like_mul : Like x x' → Like y y' → Like (mul binary64 x y) (mul binary64 x' y')
  like_mul (like p) (like q) = like (mul-value binary64 x x' y y' p q)

  pub like_lt : Like x x' → Like y y' → lt x y ≡ lt x' y'
  like_lt (like p) (like q) = lt-value x x' y y' p q

-- ---- vectors of the same value
pub record Same (u v : SphericalPoint) : Type 0 where
  pub x : Like u.x v.x
  pub y : Like u.y v.y
  pub z : Like u.z v.z

pub same_refl : (u : SphericalPoint) → Same u u
same_refl u = record { x = like_refl u.x; y = like_refl u.y; z = like_refl u.z }

pub same_trans : {u v w : SphericalPoint} → Same u v → Same v w → Same u w
same_trans s r = record { x = like_trans s.x r.x; y = like_trans s.y r.y; z = like_trans s.z r.z }

-- ---- the operations, by value
pub same_neg : {u v : SphericalPoint} → Same u v → Same (xyz_neg u) (xyz_neg v)
unfolding xyz_neg
same_neg s = record { x = like_neg s.x; y = like_neg s.y; z = like_neg s.z }

pub same_sum : {u v : SphericalPoint} → Same u v → Like (xyz_sum u) (xyz_sum v)
unfolding xyz_sum
same_sum s = like_add (like_add s.x s.y) s.z

module _ {u u' v v' : SphericalPoint} (p : Same u u') (q : Same v v') where
  pub same_mul : Same (xyz_mul u v) (xyz_mul u' v')
  unfolding xyz_mul
  same_mul = record { x = like_mul p.x q.x; y = like_mul p.y q.y; z = like_mul p.z q.z }

  pub same_dot : Like (xyz_dot u v) (xyz_dot u' v')
  unfolding xyz_dot
  same_dot = same_sum same_mul

  pub same_cross : Same (xyz_cross u v) (xyz_cross u' v')
  unfolding xyz_cross
  same_cross =
      record {
        x = like_sub (like_mul p.y q.z) (like_mul p.z q.y);
        y = like_sub (like_mul p.z q.x) (like_mul p.x q.z);
        z = like_sub (like_mul p.x q.y) (like_mul p.y q.x);
      }

  same_gaps : Same (xyz_abs (xyz_sub u v)) (xyz_abs (xyz_sub u' v'))
  unfolding xyz_abs xyz_sub
  same_gaps =
      record { x = like_abs (like_sub p.x q.x); y = like_abs (like_sub p.y q.y); z = like_abs (like_sub p.z q.z) }

  pub same_eq : xyz_eq u v ≡ xyz_eq u' v'
  unfolding xyz_eq
  same_eq = like_lt (same_sum same_gaps) (like_refl equality_tolerance)

-- ---- points that trade places

gap_swap : (x y : Float) → Like (abs (sub binary64 x y)) (abs (sub binary64 y x))
gap_swap x y = like_trans (like_abs (like (sub-swap binary64 x y))) (like_same (abs_neg (sub binary64 y x)))

pub eq_swap : (u v : SphericalPoint) → xyz_eq u v ≡ xyz_eq v u
unfolding xyz_eq xyz_abs xyz_sub
eq_swap u v = like_lt (same_sum (record { x = gap_swap u.x v.x; y = gap_swap u.y v.y; z = gap_swap u.z v.z })) (like_refl equality_tolerance)

-- ---- negation
pub neg_twice : (u : SphericalPoint) → Same (xyz_neg (xyz_neg u)) u
unfolding xyz_neg
neg_twice u = record { x = like_same (neg_neg u.x); y = like_same (neg_neg u.y); z = like_same (neg_neg u.z) }

-- a * b - c * d, a minor of the cross product
abbrev minor : Float → Float → Float → Float → Float
minor a b c d = sub binary64 (mul binary64 a b) (mul binary64 c d)

minor_swap : (a b c d : Float) → Like (minor a b c d) (neg (minor d c b a))
minor_swap a b c d =
    like (ap₂ (λ (m n : Float). value (sub binary64 m n)) (mul_comm binary64 a b) (mul_comm binary64 c d)
    ∙ sub-swap binary64 (mul binary64 b a) (mul binary64 d c))

sub_of_negs : (m n : Float) {m' n' : Float} → m' ≡ neg m → n' ≡ neg n → Like (sub binary64 m' n') (neg (sub binary64 m n))
sub_of_negs m n p q = like (ap₂ (λ (a b : Float). value (sub binary64 a b)) p q ∙ sym (neg_sub binary64 m n))

minor_neg_left : (a b c d : Float) → Like (minor (neg a) b (neg c) d) (neg (minor a b c d))
minor_neg_left a b c d = sub_of_negs (mul binary64 a b) (mul binary64 c d) (mul_neg_left binary64 a b) (mul_neg_left binary64 c d)

minor_neg_right : (a b c d : Float) → Like (minor a (neg b) c (neg d)) (neg (minor a b c d))
minor_neg_right a b c d = sub_of_negs (mul binary64 a b) (mul binary64 c d) (mul_neg_right binary64 a b) (mul_neg_right binary64 c d)

sum_neg : (u : SphericalPoint) → Like (xyz_sum (xyz_neg u)) (neg (xyz_sum u))
unfolding xyz_sum xyz_neg
sum_neg u =
    like_trans (like_add (like_sym (like (neg_add binary64 u.x u.y))) (like_refl (neg u.z)))
    (like_sym (like (neg_add binary64 (add binary64 u.x u.y) u.z)))

module _ (u v : SphericalPoint) where
  pub cross_swap : Same (xyz_cross v u) (xyz_neg (xyz_cross u v))
  unfolding xyz_cross xyz_neg
  cross_swap =
      record { x = minor_swap v.y u.z v.z u.y; y = minor_swap v.z u.x v.x u.z; z = minor_swap v.x u.y v.y u.x }

  pub cross_neg_left : Same (xyz_cross (xyz_neg u) v) (xyz_neg (xyz_cross u v))
  unfolding xyz_cross xyz_neg
  cross_neg_left =
      record { x = minor_neg_left u.y v.z u.z v.y; y = minor_neg_left u.z v.x u.x v.z; z = minor_neg_left u.x v.y u.y v.x }

  pub cross_neg_right : Same (xyz_cross u (xyz_neg v)) (xyz_neg (xyz_cross u v))
  unfolding xyz_cross xyz_neg
  cross_neg_right =
      record {
        x = minor_neg_right u.y v.z u.z v.y;
        y = minor_neg_right u.z v.x u.x v.z;
        z = minor_neg_right u.x v.y u.y
            v.x;
      }

  products_neg : Same (xyz_mul u (xyz_neg v)) (xyz_neg (xyz_mul u v))
  unfolding xyz_mul xyz_neg
  products_neg =
      record {
        x = like_same (mul_neg_right binary64 u.x v.x);
        y = like_same (mul_neg_right binary64 u.y v.y);
        z = like_same
            (mul_neg_right binary64 u.z v.z);
      }

  pub dot_neg_right : Like (xyz_dot u (xyz_neg v)) (neg (xyz_dot u v))
  unfolding xyz_dot
  dot_neg_right = like_trans (same_sum products_neg) (sum_neg (xyz_mul u v))
