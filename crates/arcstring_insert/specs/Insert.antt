-- Inserting vertices, as `ArcString::insert_vertices` does it, leg by leg. Definitions only.
use Rattle.std.specs.Prelude.{Bool, List, ◌∷◌, ◌++◌, map, ℕ, zero, suc, ◌+◌, length, take, drop, Float}
use Rattle.sphericalpoint.specs.declared.SphericalPoint.{SphericalPoint}
use Rattle.arcstring_check.specs.Answer.{Answer, answered, unless_refused, and_then, pick}
use Rattle.arcstring.specs.declared.inner.vertex.Vertex.{Vertex}
use Rattle.arcstring.specs.Points.{numbered, place_of, points}
use Rattle.arcstring_check.specs.Check.{points_check, lent}
use Rattle.arcstring.specs.Leg.{leg_count}
use Rattle.arcstring_along.specs.OnString.{along_leg}
use Rattle.arcstring_insert.specs.Steps.{for_each, leg_from, limited}

-- before what stands at position k
unfoldable pub insert_at : {A : Type 0} → ℕ → A → List A → List A
insert_at k x xs = take k xs ++ (x ∷ drop k xs)

-- ---- of any list whose elements have a point, `pt`

-- The walk of one element from the leg that starts at position k on, over so many legs: before the start of each leg that its point is along, and then on two
-- places further. A closed string's last leg goes back to whatever then stands at position 0. 3: over 1,024 vertices after an insertion.
unfoldable pub insert_walk : {A : Type 0} → (A → SphericalPoint) → A → ℕ → ℕ → List A → Answer (List A)
insert_walk pt x k zero xs = answered xs
insert_walk pt x k (suc left) xs =
    pick (along_leg (pt x) (leg_from (map pt xs) k))
    (and_then (limited (length (insert_at k x xs)) (insert_at k x xs)) (insert_walk pt x (k + 2) left))
    (insert_walk pt x (k + 1) left xs)

unfoldable pub insert_point : {A : Type 0} → (A → SphericalPoint) → Bool → A → List A → Answer (List A)
insert_point pt closed x xs = insert_walk pt x 0 (leg_count (length xs) closed) xs

-- each of the elements in turn, as given; the near list is carried over
unfoldable pub inserted : {A : Type 0} → (A → SphericalPoint) → Bool → List A → List A → Answer (List A)
inserted pt closed extra xs = for_each (insert_point pt closed) extra xs

-- ---- the call: a point put in brings its own number

unfoldable pub insert_vertices : List Float → List ℕ → Bool → List Float → List ℕ → ℕ → ℕ → Answer (List Vertex)
insert_vertices v buoys closed extra extra_buoys room buoy_room =
    lent v buoys room buoy_room
    (unless_refused (points_check extra extra_buoys) (inserted place_of closed (numbered (points extra) extra_buoys) (numbered (points v) buoys)))
