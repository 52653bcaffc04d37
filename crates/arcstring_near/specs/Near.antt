-- Whether a point is near an entry of a near list, as docs/TERMS.md reads `point_within_kdtree`. Definitions only.
use Rattle.std.specs.Prelude.{Bool, Float}
use Rattle.std.specs.Float.Ieee.{lt}
use Rattle.sphericalpoint.specs.declared.SphericalPoint.{SphericalPoint}
use Rattle.sphericalpoint.specs.Vector.{equality_tolerance, xyz_sub, xyz_mul, xyz_sum}

-- (dx·dx + dy·dy) + dz·dz
unfoldable pub squared_distance : SphericalPoint → SphericalPoint → Float
squared_distance p e = xyz_sum (xyz_mul (xyz_sub p e) (xyz_sub p e))

unfoldable pub is_near : SphericalPoint → SphericalPoint → Bool
is_near p e = lt (squared_distance p e) equality_tolerance
