-- The test of three points on one leg, as docs/TERMS.md and sphericalpoint.rs have it. Definitions only.
use Rattle.std.specs.Prelude.{Bool, true, false, ◌&&◌, ◌||◌, cond, Float}
use Rattle.std.specs.Float.{binary64}
use Rattle.std.specs.Float.Ieee.{add, div, neg, lt, le}
use Rattle.ieee754.specs.Size.{abs}
use Rattle.sphericalpoint.specs.declared.SphericalPoint.{SphericalPoint}
use Rattle.sphericalpoint.specs.Vector.{coplanar_tolerance, xyz_dot, xyz_cross, xyz_length, xyz_eq}
use Rattle.sphericalpoint.specs.Point.{one}

-- the last part of `xyzs_coplanar`, with m the cross product of a and b and l its length: c is near their plane, no farther from either than they
-- are from each other, and they are not antipodal
unfoldable pub between_in_plane : SphericalPoint → SphericalPoint → SphericalPoint → SphericalPoint → Float → Bool
between_in_plane a b c m l =
    lt (div binary64 (abs (xyz_dot c m)) l) coplanar_tolerance
    && (le (xyz_dot a b) (xyz_dot a c) && le (xyz_dot a b) (xyz_dot b c))
    && lt (add binary64 (neg one) coplanar_tolerance) (xyz_dot a b)

-- the part of that which needs neither m nor l, for the inner function `between_ends_lem`
unfoldable pub between_ends : SphericalPoint → SphericalPoint → SphericalPoint → Bool
between_ends a b c = (le (xyz_dot a b) (xyz_dot a c) && le (xyz_dot a b) (xyz_dot b c)) && lt (add binary64 (neg one) coplanar_tolerance) (xyz_dot a b)

-- `xyzs_coplanar`. c is sought between a and b, although its callers pass the point that they ask about as b.
unfoldable pub xyzs_coplanar : SphericalPoint → SphericalPoint → SphericalPoint → Bool
xyzs_coplanar a b c =
    let m = xyz_cross a b in
    cond (xyz_eq a b || xyz_eq b c) true (cond (lt (xyz_length m) coplanar_tolerance) false (between_in_plane a b c m (xyz_length m)))
