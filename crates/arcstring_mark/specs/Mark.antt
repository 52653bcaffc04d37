-- Whether a mark lies on a leg, with the roles set right: the mark is sought between the leg's start and its end. And whether it lies on a string.
-- Definitions only.
use Rattle.std.specs.Prelude.{Bool, not, ◌&&◌, ◌||◌, List, [], ◌∷◌, ℕ, Float}
use Rattle.std.proofs.Math.Option.{Option, none, some}
use Rattle.std.specs.Float.{binary64}
use Rattle.std.specs.Float.Ieee.{add, div, neg, lt, le}
use Rattle.ieee754.specs.Size.{abs}
use Rattle.ieee754.specs.Value.{zero_float}
use Rattle.sphericalpoint.specs.declared.SphericalPoint.{SphericalPoint}
use Rattle.sphericalpoint.specs.Vector.{coplanar_tolerance, xyz_add, xyz_dot, xyz_cross, xyz_length, xyz_eq}
use Rattle.sphericalpoint.specs.Point.{one}
use Rattle.arcstring_check.specs.Answer.{Answer, answered, unless_refused, pick}
use Rattle.arcstring_check.specs.Check.{stored_check, point_check}
use Rattle.arcstring.specs.Points.{points}
use Rattle.arcstring.specs.Leg.{Leg, legs, leg_check}
use Rattle.arcstring_along.specs.OnString.{next, is_some}

-- ---- a leg

-- A mark inside a leg. The leg's normal, start × end, is not shorter than 2e-8, and start · end is above -1 + 2e-8: shorter legs and nearly antipodal ones have
-- no inside. The mark is within 2e-8 of their plane, as `xyzs_coplanar` reckons it; its dot products with start and end are each at least start · end; and that
-- with their sum is not negative, or the far side of a leg over 120 degrees would pass.
unfoldable pub inside_leg : SphericalPoint → Leg → Bool
inside_leg p l =
    let normal = xyz_cross l.from l.to in
    let ends = xyz_dot l.from l.to in
    not (lt (xyz_length normal) coplanar_tolerance)
    && lt (add binary64 (neg one) coplanar_tolerance) ends
    && lt (div binary64 (abs (xyz_dot p normal)) (xyz_length normal)) coplanar_tolerance
    && le ends (xyz_dot p l.from)
    && le ends (xyz_dot p l.to)
    && le zero_float (xyz_dot p (xyz_add l.from l.to))

-- a mark that equals an end is on the leg, whatever the leg
unfoldable pub mark_on_leg : SphericalPoint → Leg → Bool
mark_on_leg p l = (xyz_eq p l.from || xyz_eq p l.to) || inside_leg p l

-- ---- a string

-- the position of the first leg that holds the mark
unfoldable pub first_holding : SphericalPoint → List Leg → Option ℕ
first_holding p [] = none
first_holding p (l ∷ ls) = pick (mark_on_leg p l) (some 0) (next (first_holding p ls))

-- some leg holds it
unfoldable pub mark_on_string : SphericalPoint → List SphericalPoint → Bool → Bool
mark_on_string p ps closed = is_some (first_holding p (legs ps closed))

-- ---- the calls

unfoldable pub on_leg : Leg → SphericalPoint → Answer Bool
on_leg l p = unless_refused (leg_check l) (unless_refused (point_check p) (answered (mark_on_leg p l)))

unfoldable pub on_string : SphericalPoint → List Float → Bool → Answer Bool
on_string p v closed = unless_refused (stored_check v) (unless_refused (point_check p) (answered (mark_on_string p (points v) closed)))
