-- Points: normalising, and building one by itself, as docs/TERMS.md and sphericalpoint.rs have them. Definitions only.
use Rattle.std.specs.Prelude.{Bool, true, false, pos, Float}
use Rattle.std.specs.Float.{fin, binary64}
use Rattle.std.specs.Float.Ieee.{sub, lt}
use Rattle.sphericalpoint.specs.declared.SphericalPoint.{SphericalPoint}
use Rattle.sphericalpoint.specs.Vector.{equality_tolerance, unit_tolerance, xyz_length, normalized}

abbrev pub one : Float
one = fin false 1 (pos 0)

-- one of two points, by a test
abbrev pub pick_point : Bool → SphericalPoint → SphericalPoint → SphericalPoint
pick_point true a b = a
pick_point false a b = b

-- as `MultiSphericalPoint::try_from` normalises each point: a vector whose length is below 3e-11 stays as it is
unfoldable pub normalized_unless_short : SphericalPoint → SphericalPoint
normalized_unless_short a = pick_point (lt (xyz_length a) equality_tolerance) a (normalized a)

-- `SphericalPoint::from`: a vector stays as it is if its length minus 1 is below 2e-11. So every short vector does too, a zero vector among them.
unfoldable pub point_from : SphericalPoint → SphericalPoint
point_from a = pick_point (lt (sub binary64 (xyz_length a) one) unit_tolerance) a (normalized a)
