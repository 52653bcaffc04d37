-- The class of a pair of legs, as docs/TERMS.md defines it over the Rust's `arcs_crossing`. Definitions only.
use Rattle.std.specs.Prelude.{Bool, true, false, ◌||◌, List, [], ◌∷◌, ℕ, Float}
use Rattle.std.proofs.Math.Option.{Option, none, some}
use Rattle.sphericalpoint.specs.declared.SphericalPoint.{SphericalPoint}
use Rattle.sphericalpoint.specs.Vector.{xyz_cross, xyz_dot, xyz_neg, xyz_eq}
use Rattle.arcstring_check.specs.Answer.{Answer, answered, unless_refused, pick}
use Rattle.arcstring_check.specs.Check.{no_margin}
use Rattle.arcstring.specs.Leg.{Leg, leg_check}
use Rattle.arcstring_sides.specs.Sides.{grazes, is_above, is_below, sign_negative, sign_positive, some_side, every_side}
use Rattle.arcstring_pair.specs.declared.pair.Pair.{Pair}
use Rattle.arcstring_pair.specs.declared.pair.Pair.TheVariants.{Clean, End, Grazing, Apart}
use Rattle.arcstring_pair.specs.declared.pair.Outcome.{Outcome}
use Rattle.arcstring_pair.specs.declared.pair.Outcome.TheVariants.{Kept, Dropped, None}

-- ---- the side values

-- a leg's own cross product: p and q of the Rust
unfoldable pub normal : Leg → SphericalPoint
normal l = xyz_cross l.from l.to

-- t of the Rust: the cross product of the two legs' own cross products
unfoldable pub meeting : Leg → Leg → SphericalPoint
meeting a b = xyz_cross (normal a) (normal b)

-- the side values of a leg's start and of its end, each with the sign that it has when the Rust compares it
unfoldable pub side_from : Leg → SphericalPoint → Float
side_from l t = xyz_dot (xyz_neg (xyz_cross l.from (normal l))) t

unfoldable pub side_to : Leg → SphericalPoint → Float
side_to l t = xyz_dot (xyz_cross l.to (normal l)) t

unfoldable pub side_values : Leg → Leg → SphericalPoint → List Float
side_values a b t = side_from a t ∷ side_to a t ∷ side_from b t ∷ side_to b t ∷ []

-- ---- the class

-- the point is `xyz_eq` to one of the four leg ends
unfoldable pub at_end : SphericalPoint → Leg → Leg → Bool
at_end p a b = xyz_eq p a.from || xyz_eq p a.to || xyz_eq p b.from || xyz_eq p b.to

-- a grazing pair's point, which the Rust's `arcs_crossing` answers: its listings drop one that is an end
unfoldable pub kept_or_dropped : SphericalPoint → Leg → Leg → Outcome
kept_or_dropped p a b = pick (at_end p a b) (Dropped p) (Kept p)

-- by its sign bits, those of zeros too, as the Rust has it: where they differ it answers no point. The margin has no part in it.
unfoldable pub grazing_outcome : SphericalPoint → Leg → Leg → List Float → Outcome
grazing_outcome t a b s = pick (every_side sign_positive s) (kept_or_dropped t a b) (pick (every_side sign_negative s) (kept_or_dropped (xyz_neg t) a b) None)

-- the signs agree
unfoldable pub end_or_clean : SphericalPoint → Leg → Leg → Pair
end_or_clean p a b = pick (at_end p a b) (End p) (Clean p)

-- the four classes by the margin. t is not normalised before the end test.
unfoldable pub class_at : Float → SphericalPoint → Leg → Leg → List Float → Pair
class_at margin t a b s =
    pick (some_side (grazes margin) s) (Grazing (grazing_outcome t a b s))
    (pick (every_side is_above s) (end_or_clean t a b) (pick (every_side is_below s) (end_or_clean (xyz_neg t) a b) Apart))

unfoldable pub pair_of : Float → Leg → Leg → Pair
pair_of margin a b = class_at margin (meeting a b) a b (side_values a b (meeting a b))

-- ---- a pair in the numbers and values of docs/TERMS.md

-- the number of its class, in the sequence in which the counts stand: 1 clean, 2 end, 3 grazing, 4 apart
abbrev pub class_number : Pair → ℕ
class_number (Clean p) = 1
class_number (End p) = 2
class_number (Grazing o) = 3
class_number Apart = 4

-- the point that the Rust's `arcs_crossing` answers
abbrev pub outcome_point : Outcome → Option SphericalPoint
outcome_point (Kept p) = some p
outcome_point (Dropped p) = some p
outcome_point None = none

abbrev pub pair_point : Pair → Option SphericalPoint
pair_point (Clean p) = some p
pair_point (End p) = some p
pair_point (Grazing o) = outcome_point o
pair_point Apart = none

-- whether the listings keep that point
abbrev pub outcome_kept : Outcome → Bool
outcome_kept (Kept p) = true
outcome_kept (Dropped p) = false
outcome_kept None = false

abbrev pub pair_kept : Pair → Bool
pair_kept (Clean p) = true
pair_kept (End p) = false
pair_kept (Grazing o) = outcome_kept o
pair_kept Apart = false

pub record Judged : Type 0 where
  pub class : ℕ
  pub point : Option SphericalPoint
  pub kept : Bool

abbrev pub judged : Pair → Judged
judged p = record { class = class_number p; point = pair_point p; kept = pair_kept p }

-- the point where the listings keep it
abbrev pub kept_point : Judged → Option SphericalPoint
kept_point j = pick j.kept j.point none

-- ---- the call, which takes no margin

unfoldable pub arcs_crossing : Leg → Leg → Answer Judged
arcs_crossing a b = unless_refused (leg_check a) (unless_refused (leg_check b) (answered (judged (pair_of no_margin a b))))
