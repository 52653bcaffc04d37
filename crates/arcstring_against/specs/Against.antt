-- Two strings held against each other, as the comparisons of arcstring.rs do it: their boundaries, vertices along a string, `==`; and the checks of their
-- lists. Definitions only.
use Rattle.std.specs.Prelude.{Bool, true, false, not, ◌&&◌, List, [], ◌∷◌, ◌-◌, length, get_or, ltb, Float}
use Rattle.sphericalpoint.specs.declared.SphericalPoint.{SphericalPoint}
use Rattle.sphericalpoint.specs.Point.{normalized_unless_short}
use Rattle.arcstring_check.specs.Answer.{Answer, unless_refused, pick}
use Rattle.arcstring_check.specs.Check.{stored_check}
use Rattle.arcstring.specs.Points.{ArcString, no_point}
use Rattle.arcstring_along.specs.OnString.{near_some, along_string}

-- ---- boundaries

-- the first and the last vertex, each normalised once more
unfoldable pub first_end : List SphericalPoint → SphericalPoint
first_end ps = normalized_unless_short (get_or ps 0 no_point)

unfoldable pub last_end : List SphericalPoint → SphericalPoint
last_end ps = normalized_unless_short (get_or ps (length ps - 1) no_point)

unfoldable pub boundary : List SphericalPoint → List SphericalPoint
boundary ps = first_end ps ∷ last_end ps ∷ []

unfoldable pub all_near : List SphericalPoint → List SphericalPoint → Bool
all_near [] es = true
all_near (p ∷ ps) es = near_some p es && all_near ps es

-- both closed, or both open with each end of the left near an end of the right
abbrev pub boundaries_meet : Bool → Bool → Bool → Bool
boundaries_meet true true ends_near = true
boundaries_meet false false ends_near = ends_near
boundaries_meet true false ends_near = false
boundaries_meet false true ends_near = false

unfoldable pub same_boundary : ArcString → ArcString → Bool
same_boundary a b = boundaries_meet a.closed b.closed (all_near (boundary a.vertices) (boundary b.vertices))

-- ---- vertices along a string

unfoldable pub all_along : List SphericalPoint → ArcString → Bool
all_along [] s = true
all_along (p ∷ ps) s = along_string p s && all_along ps s

-- every vertex of the longer along the shorter, and of the shorter along the longer
unfoldable pub each_along : ArcString → ArcString → Bool
each_along shorter longer = all_along longer.vertices shorter && all_along shorter.vertices longer

-- `==`: the left is the shorter only if it is strictly shorter
unfoldable pub equal_strings : ArcString → ArcString → Bool
equal_strings a b = same_boundary a b && pick (ltb (length a.vertices) (length b.vertices)) (each_along a b) (each_along b a)

unfoldable pub within_string : ArcString → ArcString → Bool
within_string a b = all_along a.vertices b

-- neither within the other
abbrev pub apart : ArcString → ArcString → Bool
apart a b = not (within_string a b) && not (within_string b a)

-- ---- the checks

-- the four lists' checks in turn: the first string's vertices and near list, then the second's
unfoldable pub two_strings : {A : Type 0} → List Float → List Float → List Float → List Float → Answer A → Answer A
two_strings a a_near b b_near x =
    unless_refused (stored_check a) (unless_refused (stored_check a_near) (unless_refused (stored_check b) (unless_refused (stored_check b_near) x)))
