-- The calls on single points: the vector layer's, after the check of each point. Definitions only.
use Rattle.std.specs.Prelude.{Bool}
use Rattle.sphericalpoint.specs.declared.SphericalPoint.{SphericalPoint}
use Rattle.sphericalpoint.specs.Vector.{xyz_eq}
use Rattle.sphericalpoint.specs.Point.{point_from}
use Rattle.sphericalpoint_coplanar.specs.Coplanar.{xyzs_coplanar}
use Rattle.arcstring_check.specs.Answer.{Answer, answered, unless_refused}
use Rattle.arcstring_check.specs.Check.{point_check}

unfoldable pub equal_points : SphericalPoint → SphericalPoint → Answer Bool
equal_points a b = unless_refused (point_check a) (unless_refused (point_check b) (answered (xyz_eq a b)))

unfoldable pub coplanar_points : SphericalPoint → SphericalPoint → SphericalPoint → Answer Bool
coplanar_points a b c = unless_refused (point_check a) (unless_refused (point_check b) (unless_refused (point_check c) (answered (xyzs_coplanar a b c))))

unfoldable pub built_point : SphericalPoint → Answer SphericalPoint
built_point p = unless_refused (point_check p) (answered (point_from p))
