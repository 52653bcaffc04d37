-- Vectors of three floats: the expressions of sphericalpoint.rs, operation by operation, each sum, difference, product and quotient rounded once. Definitions
-- only.
use Rattle.std.specs.Prelude.{Bool, false, Float, ◌^◌}
use Rattle.std.specs.Float.{binary64}
use Rattle.std.specs.Float.Ieee.{add, sub, mul, div, neg, lt, round}
use Rattle.ieee754.specs.Size.{abs}
use Rattle.sphericalpoint.specs.declared.SphericalPoint.{SphericalPoint}
use Rattle.square_root.specs.Sqrt.{sqrt_of}

-- ---- the tolerances, each the float nearest to the decimal

-- 3e-11: two points closer than this are `xyz_eq`, and a vector shorter than this is not divided by its length
unfoldable pub equality_tolerance : Float
unfolding round
equality_tolerance = round binary64 false 3 (10 ^ 11)

-- 2e-8: how far from a leg's plane, and from antipodal, `xyzs_coplanar` looks
unfoldable pub coplanar_tolerance : Float
unfolding round
coplanar_tolerance = round binary64 false 2 (10 ^ 8)

-- 2e-11: a length less than this above 1 counts as 1 in `SphericalPoint::from`
unfoldable pub unit_tolerance : Float
unfolding round
unit_tolerance = round binary64 false 2 (10 ^ 11)

-- ---- coordinate by coordinate

unfoldable pub xyz_add : SphericalPoint → SphericalPoint → SphericalPoint
xyz_add a b = record { x = add binary64 a.x b.x; y = add binary64 a.y b.y; z = add binary64 a.z b.z }

unfoldable pub xyz_sub : SphericalPoint → SphericalPoint → SphericalPoint
xyz_sub a b = record { x = sub binary64 a.x b.x; y = sub binary64 a.y b.y; z = sub binary64 a.z b.z }

unfoldable pub xyz_mul : SphericalPoint → SphericalPoint → SphericalPoint
xyz_mul a b = record { x = mul binary64 a.x b.x; y = mul binary64 a.y b.y; z = mul binary64 a.z b.z }

unfoldable pub xyz_div : SphericalPoint → Float → SphericalPoint
xyz_div a d = record { x = div binary64 a.x d; y = div binary64 a.y d; z = div binary64 a.z d }

unfoldable pub xyz_neg : SphericalPoint → SphericalPoint
xyz_neg a = record { x = neg a.x; y = neg a.y; z = neg a.z }

-- a zero's sign is cleared too
unfoldable pub xyz_abs : SphericalPoint → SphericalPoint
xyz_abs a = record { x = abs a.x; y = abs a.y; z = abs a.z }

-- ---- sums of three, first and second first

unfoldable pub xyz_sum : SphericalPoint → Float
xyz_sum a = add binary64 (add binary64 a.x a.y) a.z

unfoldable pub xyz_dot : SphericalPoint → SphericalPoint → Float
xyz_dot a b = xyz_sum (xyz_mul a b)

unfoldable pub xyz_cross : SphericalPoint → SphericalPoint → SphericalPoint
xyz_cross a b =
    record {
      x = sub binary64 (mul binary64 a.y b.z) (mul binary64 a.z b.y);
      y = sub binary64 (mul binary64 a.z b.x) (mul binary64 a.x b.z);
      z = sub binary64 (mul binary64 a.x b.y) (mul binary64 a.y b.x);
    }

-- `powi(2)` is the number times itself
unfoldable pub xyz_length : SphericalPoint → Float
xyz_length a = sqrt_of (xyz_sum (xyz_mul a a))

unfoldable pub normalized : SphericalPoint → SphericalPoint
normalized a = xyz_div a (xyz_length a)

-- equal points, `xyz_eq`: the sum of absolute differences is strictly below 3e-11
unfoldable pub xyz_eq : SphericalPoint → SphericalPoint → Bool
xyz_eq a b = lt (xyz_sum (xyz_abs (xyz_sub a b))) equality_tolerance
