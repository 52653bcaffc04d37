-- The checks of docs/TERMS.md's table on what is handed in: each list's in number order, 10 right after 1. 0 where all is well, else the
-- number of the first refusal. Definitions only.
use Rattle.std.specs.Prelude.{Bool, true, false, not, ◌&&◌, List, [], ◌∷◌, ℕ, ◌*◌, ◌/◌, ◌%◌, length, ltb, eqb, Float, pos, Result, Ok, Err}
use Rattle.std.specs.Float.{nan, inf, fin}
use Rattle.std.specs.Float.Ieee.{lt, le}
use Rattle.ieee754.specs.Value.{zero_float}
use Rattle.sphericalpoint.specs.declared.SphericalPoint.{SphericalPoint}
use Rattle.arcstring_check.specs.Answer.{Answer, answered, unless_refused, and_then, number_if, first_of, refusal_number}
use Rattle.arcstring_check.specs.declared.check.Refusal.{Refusal}

-- what a check's answer is in these numbers
abbrev pub check_number : Result Unit Refusal → ℕ
check_number (Ok tt) = 0
check_number (Err e) = refusal_number e

-- from -1 to 1; no NaN and no infinity is
unfoldable pub in_range : Float → Bool
in_range x = le (fin true 1 (pos 0)) x && le x (fin false 1 (pos 0))

unfoldable pub all_in_range : List Float → Bool
all_in_range [] = true
all_in_range (x ∷ v) = in_range x && all_in_range v

-- how many points a list has at most, and how many floats these are
abbrev pub most_points : ℕ
most_points = 1024

abbrev pub most_floats : ℕ
most_floats = 3 * most_points

-- The checks of any list, in number order: 1, not whole triples; what else is asked of how few points there are, `few`; 3, over 1,024 points; 4, a coordinate
-- out of range.
unfoldable pub list_check : ℕ → List Float → ℕ
list_check few v =
    first_of (number_if (not (eqb (length v % 3) 0)) 1)
    (first_of few (first_of (number_if (ltb most_points (length v / 3)) 3) (number_if (not (all_in_range v)) 4)))

-- the vertices or the near list of a stored string: an empty one is refused by 1
unfoldable pub stored_check : List Float → ℕ
stored_check v = list_check (number_if (eqb (length v) 0) 1) v

-- 10: a list of numbers is not as long as its list of points
unfoldable pub buoys_check : List Float → List ℕ → ℕ
buoys_check v buoys = number_if (not (eqb (length buoys) (length v / 3))) 10

-- the vertices of a stored string with their numbers: 10 stands right after 1
unfoldable pub string_check : List Float → List ℕ → ℕ
string_check v buoys = list_check (first_of (number_if (eqb (length v) 0) 1) (buoys_check v buoys)) v

-- a list to build from: 0 points and 1 point are refused by 2
unfoldable pub build_check : List Float → ℕ
build_check v = list_check (number_if (ltb (length v / 3) 2) 2) v

-- with its numbers: 10 stands before 2
unfoldable pub building_check : List Float → List ℕ → ℕ
building_check v buoys = list_check (first_of (buoys_check v buoys) (number_if (ltb (length v / 3) 2) 2)) v

-- points to put in or to cut at, with their numbers; none at all are accepted
unfoldable pub points_check : List Float → List ℕ → ℕ
points_check v buoys = list_check (buoys_check v buoys) v

-- a single point
unfoldable pub point_check : SphericalPoint → ℕ
point_check p = number_if (not (in_range p.x && in_range p.y && in_range p.z)) 4

-- 9: a margin is below 0, a NaN or infinite; -0 is not below 0
unfoldable pub margin_check : Float → ℕ
margin_check nan = 9
margin_check (inf s) = 9
margin_check (fin s m e) = number_if (lt (fin s m e) zero_float) 9

-- the margin of a call that takes none
abbrev pub no_margin : Float
no_margin = zero_float

-- 7: the finished answer, of so many elements, is longer than the buffer lent for it
unfoldable pub room_check : ℕ → ℕ → ℕ
room_check needed lent = number_if (ltb lent needed) 7

-- finished vertices, into a buffer of so many floats
unfoldable pub into_room : {A : Type 0} → ℕ → List A → Answer (List A)
into_room room xs = unless_refused (room_check (3 * length xs) room) (answered xs)

-- so many vertices with their numbers, into a buffer of so many floats and one of so many numbers: 7 looks at both
unfoldable pub rooms_check : ℕ → ℕ → ℕ → ℕ
rooms_check n room buoy_room = first_of (room_check (3 * n) room) (room_check n buoy_room)

unfoldable pub into_rooms : {A : Type 0} → ℕ → ℕ → List A → Answer (List A)
into_rooms room buoy_room xs = unless_refused (rooms_check (length xs) room buoy_room) (answered xs)

-- what is answered to a string that is lent with its numbers, and to buffers of so many floats and numbers
unfoldable pub lent : {A : Type 0} → List Float → List ℕ → ℕ → ℕ → Answer (List A) → Answer (List A)
lent v buoys room buoy_room a = unless_refused (string_check v buoys) (and_then a (into_rooms room buoy_room))
