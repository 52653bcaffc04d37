-- What is claimed of marks on legs: for any floats. Definitions only. The proofs are in `proofs/MarkLaws.antt` and, of a leg and its reverse,
-- `proofs/TurnedMarks.antt`.
use Rattle.std.specs.Prelude.{◌≡◌, Bool, true, false, ◌||◌, List, [], ◌∷◌, ℕ, ◌-◌, pos, negsuc, Float}
use Rattle.std.specs.Float.{fin, binary64}
use Rattle.std.specs.Float.Ieee.{add, div, neg, lt, le}
use Rattle.ieee754.specs.Size.{abs}
use Rattle.ieee754.specs.Value.{value, zero_float}
use Rattle.sphericalpoint.specs.declared.SphericalPoint.{SphericalPoint}
use Rattle.sphericalpoint.specs.Vector.{coplanar_tolerance, xyz_add, xyz_dot, xyz_cross, xyz_length, xyz_eq}
use Rattle.sphericalpoint.specs.Point.{one}
use Rattle.arcstring.specs.Points.{point}
use Rattle.arcstring.specs.Leg.{Leg, leg}
use Rattle.arcstring_mark.specs.Mark.{mark_on_leg}

-- whether a mark equals an end of a leg
abbrev pub equals_end : SphericalPoint → Leg → Bool
equals_end p l = xyz_eq p l.from || xyz_eq p l.to

-- ---- which marks a leg holds

-- A mark that equals an end is held, whatever the leg.
abbrev pub EndsHeld : Type 0
EndsHeld = (p : SphericalPoint) (l : Leg) → equals_end p l ≡ true → mark_on_leg p l ≡ true

-- what is asked of the leg: its normal is long enough, and its ends are not nearly antipodal
pub record HasInside (l : Leg) : Type 0 where
  pub normal_long : lt (xyz_length (xyz_cross l.from l.to)) coplanar_tolerance ≡ false
  pub not-antipodal : lt (add binary64 (neg one) coplanar_tolerance) (xyz_dot l.from l.to) ≡ true

-- the four conditions on the mark
pub record Between (p : SphericalPoint) (l : Leg) : Type 0 where
  pub coplanar : lt (div binary64 (abs (xyz_dot p (xyz_cross l.from l.to))) (xyz_length (xyz_cross l.from l.to))) coplanar_tolerance ≡ true
  pub by-start : le (xyz_dot l.from l.to) (xyz_dot p l.from) ≡ true
  pub by-end : le (xyz_dot l.from l.to) (xyz_dot p l.to) ≡ true
  pub near-side : le zero_float (xyz_dot p (xyz_add l.from l.to)) ≡ true

-- A mark that is held and equals no end has all of them, and a mark that has all of them is held.
abbrev pub OthersBetween : Type 0
OthersBetween = (p : SphericalPoint) (l : Leg) → equals_end p l ≡ false → mark_on_leg p l ≡ true → HasInside l × Between p l

abbrev pub BetweenHeld : Type 0
BetweenHeld = (p : SphericalPoint) (l : Leg) → HasInside l → Between p l → mark_on_leg p l ≡ true

-- A leg whose normal is shorter than 2e-8, and one whose ends have a dot product that is not above -1 + 2e-8, hold the marks that equal an end and no other.
abbrev pub ShortHoldsEnds : Type 0
ShortHoldsEnds = (p : SphericalPoint) (l : Leg) → lt (xyz_length (xyz_cross l.from l.to)) coplanar_tolerance ≡ true → mark_on_leg p l ≡ equals_end p l

abbrev pub AntipodalHoldsEnds : Type 0
AntipodalHoldsEnds =
    (p : SphericalPoint) (l : Leg) → lt (add binary64 (neg one) coplanar_tolerance) (xyz_dot l.from l.to) ≡ false → mark_on_leg p l ≡ equals_end p l

-- ---- a leg and its reverse

-- Of the leg from b to a the test works out the same floats as of that from a to b, bit for bit, with the dot products by start and end traded; but the normal
-- is another: its coordinates are negated, and those that are zeros may keep their sign.
pub record SameParts (p a b : SphericalPoint) : Type 0 where
  pub ends : xyz_dot b a ≡ xyz_dot a b
  pub sum : xyz_add b a ≡ xyz_add a b
  pub normal_x : value (xyz_cross b a).x ≡ value (neg (xyz_cross a b).x)
  pub normal_y : value (xyz_cross b a).y ≡ value (neg (xyz_cross a b).y)
  pub normal_z : value (xyz_cross b a).z ≡ value (neg (xyz_cross a b).z)
  pub length : xyz_length (xyz_cross b a) ≡ xyz_length (xyz_cross a b)
  pub size : abs (xyz_dot p (xyz_cross b a)) ≡ abs (xyz_dot p (xyz_cross a b))

abbrev pub PartsOfReverse : Type 0
PartsOfReverse = (p a b : SphericalPoint) → SameParts p a b

-- So a leg and its reverse hold the same marks.
abbrev pub ReverseHolds : Type 0
ReverseHolds = (p a b : SphericalPoint) → mark_on_leg p (leg b a) ≡ mark_on_leg p (leg a b)

-- ---- some marks, computed

abbrev unit : Float
unit = fin false 1 (pos 0)

abbrev half : Float
half = fin false 1 (negsuc 0)

-- 2 to the power -n, for n from 1 on
abbrev part : ℕ → Float
part n = fin false 1 (negsuc (n - 1))

abbrev point_x : SphericalPoint
point_x = point unit zero_float zero_float

abbrev point_y : SphericalPoint
point_y = point zero_float unit zero_float

-- on the leg from X to Y: halfway, at an end, off its plane, past its start
abbrev on_quarter : List Bool
on_quarter =
    mark_on_leg (point half half zero_float) (leg point_x point_y)
    ∷ mark_on_leg point_y (leg point_x point_y)
    ∷ mark_on_leg (point zero_float zero_float unit) (leg point_x point_y)
    ∷ mark_on_leg (point half (fin true 1 (negsuc 0)) zero_float) (leg point_x point_y)
    ∷ []

-- from X to (-0.75, 0.5, 0), 146 degrees: on its near side, and on the far side, where both dot products are large enough
abbrev over_two_thirds : Leg
over_two_thirds = leg point_x (point (fin true 3 (negsuc 1)) half zero_float)

abbrev on_long : List Bool
on_long =
    mark_on_leg (point (part 2) half zero_float) over_two_thirds
    ∷ mark_on_leg (point (fin true 1 (negsuc 0)) (fin true 3 (negsuc 1)) zero_float) over_two_thirds
    ∷ []

-- halfway on a leg of no length, from X to X; on one whose normal is 2^-26 long, and on one of 2^-25, above 2e-8; Y on a leg from X to (-1, 2^-20, 0)
abbrev on_none : List Bool
on_none =
    mark_on_leg (point half half zero_float) (leg point_x point_x)
    ∷ mark_on_leg (point unit (part 27) zero_float) (leg point_x (point unit (part 26) zero_float))
    ∷ mark_on_leg (point unit (part 26) zero_float) (leg point_x (point unit (part 25) zero_float))
    ∷ mark_on_leg point_y (leg point_x (point (fin true 1 (pos 0)) (part 20) zero_float))
    ∷ []

pub record KnownMarks : Type 0 where
  pub quarter : on_quarter ≡ true ∷ true ∷ false ∷ false ∷ []
  pub long : on_long ≡ true ∷ false ∷ []
  pub none : on_none ≡ false ∷ false ∷ true ∷ false ∷ []
