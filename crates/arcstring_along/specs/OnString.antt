-- Whether a point is near an entry of the near list, and whether it is along a string, as docs/TERMS.md reads `point_within_kdtree` and
-- `point_is_along_arcstring`. Definitions only.
use Rattle.std.specs.Prelude.{Bool, true, false, ◌||◌, List, [], ◌∷◌, ℕ, suc, Float}
use Rattle.std.proofs.Math.Option.{Option, none, some}
use Rattle.sphericalpoint.specs.declared.SphericalPoint.{SphericalPoint}
use Rattle.sphericalpoint_coplanar.specs.Coplanar.{xyzs_coplanar}
use Rattle.arcstring_near.specs.Near.{is_near}
use Rattle.arcstring_along.specs.declared.inner.stored.Stored.{Stored}
use Rattle.arcstring_check.specs.Answer.{Answer, answered, unless_refused, pick}
use Rattle.arcstring.specs.Points.{ArcString, points}
use Rattle.arcstring_check.specs.Check.{stored_check, point_check}
use Rattle.arcstring.specs.Leg.{Leg, legs}

abbrev pub next : Option ℕ → Option ℕ
next none = none
next (some k) = some (suc k)

-- the position of the first near entry that passes
unfoldable pub first_near : SphericalPoint → List SphericalPoint → Option ℕ
first_near p [] = none
first_near p (e ∷ es) = pick (is_near p e) (some 0) (next (first_near p es))

abbrev pub is_some : Option ℕ → Bool
is_some none = false
is_some (some k) = true

-- the verdict is whether there is one
unfoldable pub near_some : SphericalPoint → List SphericalPoint → Bool
near_some p es = is_some (first_near p es)

-- the source's test, with the point in the second place: it seeks the leg's end between its start and the point
unfoldable pub along_leg : SphericalPoint → Leg → Bool
along_leg p l = xyzs_coplanar l.from p l.to

unfoldable pub along_some_leg : SphericalPoint → List Leg → Bool
along_some_leg p [] = false
along_some_leg p (l ∷ ls) = along_leg p l || along_some_leg p ls

-- near an entry of the near list, or along a leg
unfoldable pub along_string : SphericalPoint → ArcString → Bool
along_string p s = near_some p s.near || along_some_leg p (legs s.vertices s.closed)

-- a string as it is handed in: its vertices, its near list, its flag
abbrev pub stored : List Float → List Float → Bool → ArcString
stored v near closed = record { vertices = points v; near = points near; closed = closed }

abbrev pub string_of : Stored → ArcString
string_of s = stored s.v.now s.near.now s.closed

unfoldable pub along : SphericalPoint → List Float → List Float → Bool → Answer Bool
along p v near closed =
    unless_refused (stored_check v) (unless_refused (stored_check near) (unless_refused (point_check p) (answered (along_string p (stored v near closed)))))
