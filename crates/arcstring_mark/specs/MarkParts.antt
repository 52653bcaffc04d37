-- A part of the test of a mark on a leg: for the contract of an inner function. Definitions only.
use Rattle.std.specs.Prelude.{Bool, ◌&&◌}
use Rattle.std.specs.Float.{binary64}
use Rattle.std.specs.Float.Ieee.{add, neg, lt, le}
use Rattle.ieee754.specs.Value.{zero_float}
use Rattle.sphericalpoint.specs.declared.SphericalPoint.{SphericalPoint}
use Rattle.sphericalpoint.specs.Vector.{coplanar_tolerance, xyz_add, xyz_dot}
use Rattle.sphericalpoint.specs.Point.{one}
use Rattle.arcstring.specs.Leg.{Leg}

-- what of `inside_leg` needs no normal
unfoldable pub between_ends : SphericalPoint → Leg → Bool
between_ends p l =
    let ends = xyz_dot l.from l.to in
    lt (add binary64 (neg one) coplanar_tolerance) ends
    && (le ends (xyz_dot p l.from) && le ends (xyz_dot p l.to))
    && le zero_float (xyz_dot p (xyz_add l.from l.to))
