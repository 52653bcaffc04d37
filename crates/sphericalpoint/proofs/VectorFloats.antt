-- Vectors float by float, the signs of zeros included: a sum and a dot product do not change where the operands trade places; vectors of the same value have
-- the same length, and so has the negation; and dot products of opposite values have the same size. For all floats, NaN and the infinities included. Assumes
-- nothing.
use mathlib.Core.Path.{◌≡◌, ap, ◌∙◌}
use lib.Ieee.{Float, binary64, neg}
use lib.Ieee.Fits.{add-fits, neg-fits}
use Rattle.ieee754.specs.Size.{abs}
use Rattle.ieee754.proofs.Arithmetic.{add_comm, mul_comm, abs_neg}
use Rattle.ieee754.proofs.SameFloats.{same_square, neg_square, same_size}
use Rattle.square_root.specs.Sqrt.{sqrt_of}
use Rattle.sphericalpoint.specs.declared.SphericalPoint.{SphericalPoint}
use Rattle.sphericalpoint.specs.Vector.{xyz_add, xyz_mul, xyz_neg, xyz_sum, xyz_dot, xyz_length}
use Rattle.sphericalpoint.proofs.VectorValues.{Like, like_value, Same}

-- a vector by its coordinates
abbrev by_coordinates : {a b c d e f : Float} → a ≡ b → c ≡ d → e ≡ f
    → ◌≡◌ {A = SphericalPoint} (record { x = a; y = c; z = e }) (record { x = b; y = d; z = f })
by_coordinates p q r = λ i. record { x = p i; y = q i; z = r i }

-- ---- operands that trade places

module _ (u v : SphericalPoint) where
  pub sum-swap : xyz_add v u ≡ xyz_add u v
  unfolding xyz_add
  sum-swap = by_coordinates (add_comm binary64 v.x u.x) (add_comm binary64 v.y u.y) (add_comm binary64 v.z u.z)

  products_swap : xyz_mul v u ≡ xyz_mul u v
  unfolding xyz_mul
  products_swap = by_coordinates (mul_comm binary64 v.x u.x) (mul_comm binary64 v.y u.y) (mul_comm binary64 v.z u.z)

  pub dot_swap : xyz_dot v u ≡ xyz_dot u v
  unfolding xyz_dot
  dot_swap = ap xyz_sum products_swap

-- ---- lengths

-- vectors whose squares are the same floats
by_squares : (u v : SphericalPoint) → xyz_mul u u ≡ xyz_mul v v → xyz_length u ≡ xyz_length v
unfolding xyz_length
by_squares u v e = ap (λ (w : SphericalPoint). sqrt_of (xyz_sum w)) e

pub length_by_value : {u v : SphericalPoint} → Same u v → xyz_length u ≡ xyz_length v
unfolding xyz_mul
length_by_value {u} {v} s =
    by_squares u v
    (by_coordinates (same_square binary64 u.x v.x (like_value s.x)) (same_square binary64 u.y v.y (like_value s.y))
    (same_square binary64 u.z v.z (like_value s.z)))

pub length_neg : (u : SphericalPoint) → xyz_length (xyz_neg u) ≡ xyz_length u
unfolding xyz_mul xyz_neg
length_neg u = by_squares (xyz_neg u) u (by_coordinates (neg_square binary64 u.x) (neg_square binary64 u.y) (neg_square binary64 u.z))

-- ---- sizes of dot products

pub dot_size : (u v w t : SphericalPoint) → Like (xyz_dot u v) (neg (xyz_dot w t)) → abs (xyz_dot u v) ≡ abs (xyz_dot w t)
unfolding xyz_dot xyz_sum
dot_size u v w t p =
    same_size binary64 (xyz_dot u v) (neg (xyz_dot w t)) (add-fits binary64 _ _) (neg-fits binary64 (xyz_dot w t) (add-fits binary64 _ _)) (like_value p)
    ∙ abs_neg (xyz_dot w t)
