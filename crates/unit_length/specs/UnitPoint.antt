-- What it is to be a point of length 1, nearly, over whole numbers. Definitions only.
use Rattle.std.specs.Prelude.{ℕ, ◌+◌, ◌*◌, ◌^◌, ◌<◌, not, T}
use Rattle.std.specs.Float.{binary64}
use Rattle.std.specs.Float.Ieee.{fits, lt}
use Rattle.ieee754.specs.Bound.{AtMost}
use Rattle.sphericalpoint.specs.declared.SphericalPoint.{SphericalPoint}
use Rattle.square_root.specs.NearestRoot.{in_units}
use Rattle.sphericalpoint.specs.Vector.{equality_tolerance, xyz_length}

-- each coordinate is an `f64`: a float that the format holds, and not any number with more digits
pub record IsF64 (a : SphericalPoint) : Type 0 where
  pub x_fits : T (fits binary64 a.x)
  pub y_fits : T (fits binary64 a.y)
  pub z_fits : T (fits binary64 a.z)

-- each coordinate is from -1 to 1, and so finite
pub record InRange (a : SphericalPoint) : Type 0 where
  pub x_in_range : AtMost 0 a.x
  pub y_in_range : AtMost 0 a.y
  pub z_in_range : AtMost 0 a.z

-- the computed length is below 3e-11: the test by which building leaves a point as it is
abbrev pub Short : SphericalPoint → Type 0
Short a = T (lt (xyz_length a) equality_tolerance)

-- and is not
abbrev pub Long : SphericalPoint → Type 0
Long a = T (not (lt (xyz_length a) equality_tolerance))

-- The exact sum of the squares, in units of 2 ^ -2148. The size of an `f64` is a whole number of units of 2 ^ -1074 (`ExactUnits` of ieee754), and `in_units`
-- is that number.
abbrev pub squares : SphericalPoint → ℕ
squares a = in_units a.x * in_units a.x + in_units a.y * in_units a.y + in_units a.z * in_units a.z

-- 1 in those units
abbrev pub square_of_one : ℕ
square_of_one = 2 ^ 2148

-- n is less than the 2 ^ -k-th part of c away from c, above it or below
pub record Within (k n c : ℕ) : Type 0 where
  pub not_above : n * 2 ^ k < c * 2 ^ k + c
  pub not_below : c * 2 ^ k < n * 2 ^ k + c

-- from -1 to 1, and of length 1, nearly: the exact sum of the squares is less than 2 ^ -49 away from 1
pub record UnitPoint (a : SphericalPoint) : Type 0 where
  pub is_f64 : IsF64 a
  pub in-range : InRange a
  pub near_one : Within 49 (squares a) square_of_one
