-- Simplifying, as `ArcString::simplify` does it, round by round. Definitions only.
use Rattle.std.specs.Prelude.{Bool, ◌||◌, List, [], ◌∷◌, ◌++◌, map, ℕ, zero, suc, ◌+◌, ◌-◌, length, get_or, take, drop, ltb, leb, eqb, Float}
use Rattle.sphericalpoint.specs.declared.SphericalPoint.{SphericalPoint}
use Rattle.sphericalpoint_coplanar.specs.Coplanar.{xyzs_coplanar}
use Rattle.arcstring_check.specs.Answer.{Answer, refused, answered, unless_refused, and_then, pick}
use Rattle.arcstring.specs.Points.{itself, points, no_point}
use Rattle.arcstring_check.specs.Check.{stored_check, into_room}

-- ---- what a round judges unnecessary

-- the third point's position for vertex k of n: the next vertex, and vertex 2 for the last
unfoldable pub third_position : ℕ → ℕ → ℕ
third_position k n = pick (ltb (k + 1) n) (k + 1) (n - k + 1)

unfoldable pub unnecessary : List SphericalPoint → ℕ → Bool
unnecessary ps k = xyzs_coplanar (get_or ps (k - 1) no_point) (get_or ps k no_point) (get_or ps (third_position k (length ps)) no_point)

-- of `count` positions from k on, those of unnecessary vertices
unfoldable pub unnecessary_from : List SphericalPoint → ℕ → ℕ → List ℕ
unnecessary_from ps k zero = []
unnecessary_from ps k (suc count) = pick (unnecessary ps k) (k ∷ unnecessary_from ps (k + 1) count) (unnecessary_from ps (k + 1) count)

-- every vertex but vertex 0 is judged, and on a closed string vertex 1 once more
unfoldable pub unnecessary_positions : List SphericalPoint → Bool → List ℕ
unnecessary_positions ps closed = unnecessary_from ps 1 (length ps - 1) ++ pick closed (unnecessary_from ps 1 1) []

-- ---- what it removes, of any list

-- 5: a position past the end
unfoldable pub remove_at : {A : Type 0} → ℕ → List A → Answer (List A)
remove_at k xs = pick (ltb k (length xs)) (answered (take k xs ++ drop (k + 1) xs)) (refused 5)

-- the positions from the last to the first
unfoldable pub remove_all : {A : Type 0} → List ℕ → List A → Answer (List A)
remove_all [] xs = answered xs
remove_all (k ∷ ks) xs = and_then (remove_all ks xs) (remove_at k)

-- ---- the rounds, of any list whose elements have a point, `pt`

-- two vertices at most, or none of them unnecessary
unfoldable pub is_simple : List SphericalPoint → Bool → Bool
is_simple ps closed = leb (length ps) 2 || eqb (length (unnecessary_positions ps closed)) 0

-- at most so many rounds
unfoldable pub rounds : {A : Type 0} → (A → SphericalPoint) → ℕ → Bool → List A → Answer (List A)
rounds pt zero closed xs = answered xs
rounds pt (suc more) closed xs =
    pick (is_simple (map pt xs) closed) (answered xs) (and_then (remove_all (unnecessary_positions (map pt xs) closed) xs) (rounds pt more closed))

-- Every round removes a vertex, so that there are enough rounds. The near list is carried over.
unfoldable pub simplified : {A : Type 0} → (A → SphericalPoint) → Bool → List A → Answer (List A)
simplified pt closed xs = rounds pt (length xs) closed xs

-- ---- simplifying for calls that are lent no numbers

unfoldable pub simplify_points : List Float → Bool → ℕ → Answer (List SphericalPoint)
simplify_points v closed room = unless_refused (stored_check v) (and_then (simplified itself closed (points v)) (into_room room))
