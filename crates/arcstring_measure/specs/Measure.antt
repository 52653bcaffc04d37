-- Turn orientations and midpoints, as arcstring.rs has them. Definitions only.
use Rattle.std.specs.Prelude.{Bool, false, not, ◌&&◌, ◌||◌, List, [], ◌∷◌, ◌++◌, map, ℕ, zero, suc, ◌+◌, ◌-◌, ◌*◌, ◌/◌, pos, length, get_or, eqb, Float}
use Rattle.std.specs.Float.{nan, fin}
use Rattle.sphericalpoint.specs.declared.SphericalPoint.{SphericalPoint}
use Rattle.sphericalpoint.specs.Vector.{xyz_add, xyz_sub, xyz_mul, xyz_div, xyz_cross, xyz_sum}
use Rattle.sphericalpoint.specs.Point.{normalized_unless_short}
use Rattle.arcstring_check.specs.Answer.{Answer, answered, unless_refused, map_answer, number_if, first_of, pick}
use Rattle.arcstring.specs.Points.{points, no_point}
use Rattle.arcstring_check.specs.Check.{list_check, stored_check, room_check}
use Rattle.arcstring.specs.Leg.{Leg, legs, position_after}

-- ---- turn orientations

-- the position before k, around n vertices; `position_after` is the one after it
unfoldable pub position_before : ℕ → ℕ → ℕ
position_before k n = pick (eqb k 0) (n - 1) (k - 1)

-- the sum that the Rust takes at b, between a and c
unfoldable pub turn : SphericalPoint → SphericalPoint → SphericalPoint → Float
turn a b c = xyz_sum (xyz_mul b (xyz_cross (xyz_sub a b) (xyz_sub c b)))

-- NaN at both ends of an open string
unfoldable pub turn_at : List SphericalPoint → Bool → ℕ → Float
turn_at ps closed i = pick (not closed && (eqb i 0 || eqb (i + 1) (length ps))) nan
    (turn (get_or ps (position_before i (length ps)) no_point) (get_or ps i no_point) (get_or ps (position_after i (length ps)) no_point))

-- those of the first k vertices
unfoldable pub turns_to : List SphericalPoint → Bool → ℕ → List Float
turns_to ps closed zero = []
turns_to ps closed (suc k) = turns_to ps closed k ++ (turn_at ps closed k ∷ [])

unfoldable pub turn_orientations : List Float → Bool → ℕ → Answer (List Float)
turn_orientations v closed room =
    unless_refused (stored_check v) (unless_refused (room_check (length (points v)) room) (answered (turns_to (points v) closed (length (points v)))))

-- how many floats
abbrev pub turns_result : Answer (List Float) → Answer ℕ
turns_result a = map_answer length a

-- ---- midpoints

abbrev pub two : Float
two = fin false 1 (pos 1)

-- the sum halved, and normalised
unfoldable pub midpoint : Leg → SphericalPoint
midpoint l = normalized_unless_short (xyz_div (xyz_add l.from l.to) two)

-- the checks of a stored list, with 2 for an open string of one vertex between 1 and 3
unfoldable pub midpoints_check : List Float → Bool → ℕ
midpoints_check v closed = list_check (first_of (number_if (eqb (length v) 0) 1) (number_if (not closed && eqb (length v / 3) 1) 2)) v

unfoldable pub midpoints : List Float → Bool → ℕ → Answer (List SphericalPoint)
midpoints v closed room =
    unless_refused (midpoints_check v closed)
    (unless_refused (room_check (3 * length (legs (points v) closed)) room) (answered (map midpoint (legs (points v) closed))))
