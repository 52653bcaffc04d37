-- Splitting one leg, as `split_arc_at_points` does it, and *uncut*, the answer where nothing is cut. Definitions only.
use Rattle.std.specs.Prelude as Std
use Rattle.std.specs.Prelude.{Bool, not, ◌&&◌, ◌||◌, List, [], ◌∷◌, ◌++◌, map, ℕ, ◌+◌, ◌*◌, length, get_or, take, drop, Float, Result}
use Rattle.std.proofs.Math.Option.{Option, none, some}
use Rattle.sphericalpoint.specs.declared.SphericalPoint.{SphericalPoint}
use Rattle.sphericalpoint.specs.Vector.{xyz_eq}
use Rattle.arcstring_check.specs.Answer.{Answer, answered, unless_refused, map_answer, and_then, pick, answer_of, option_of}
use Rattle.arcstring.specs.Points.{points, flat, no_point}
use Rattle.arcstring_check.specs.Check.{room_check}
use Rattle.arcstring.specs.Leg.{Leg, leg, leg_check}
use Rattle.arcstring_along.specs.OnString.{along_leg}
use Rattle.arcstring_insert.specs.Steps.{for_each, for_positions, extra_check, limited}
use Rattle.arcstring_check.specs.declared.check.Refusal.{Refusal}

-- ---- the cuts

-- a point equal to an end of the leg is skipped
unfoldable pub cuts_leg : SphericalPoint → Leg → Bool
cuts_leg p l = not (xyz_eq l.from p || xyz_eq p l.to) && along_leg p l

-- The leg at place k up to the point, and the second half, which is point, point. 3: over 1,024 points, two for each piece.
unfoldable pub cut_leg_at : SphericalPoint → ℕ → List Leg → Answer (List Leg)
cut_leg_at p k ls =
    let l = get_or ls k (leg no_point no_point) in
    let cut = take k ls ++ (leg l.from p ∷ leg p p ∷ drop (k + 1) ls) in
    pick (cuts_leg p l) (limited (2 * length cut) cut) (answered ls)

-- one point at every place that there is before it
unfoldable pub cut_legs : SphericalPoint → List Leg → Answer (List Leg)
cut_legs p ls = for_positions (cut_leg_at p) 0 (length ls) ls

-- ---- uncut

-- no cut leaves one piece: `none` stands for *uncut*
abbrev pub unless_uncut : {A : Type 0} → List A → Option (List A)
unless_uncut [] = none
unless_uncut (a ∷ []) = none
unless_uncut (a ∷ b ∷ l) = some (a ∷ b ∷ l)

-- of each piece; uncut stays
abbrev pub each_piece : {A B : Type 0} → (A → B) → Option (List A) → Option (List B)
each_piece f none = none
each_piece f (some l) = some (map f l)

-- how many pieces
abbrev pub piece_count : {A : Type 0} → Option (List A) → Option ℕ
piece_count none = none
piece_count (some l) = some (length l)

-- what is written of the pieces; uncut writes nothing
abbrev pub of_pieces : {A B : Type 0} → (List A → List B) → Option (List A) → List B
of_pieces f none = []
of_pieces f (some l) = f l

abbrev pub split_answer : Result (Std.Option ℕ) Refusal → Answer (Option ℕ)
split_answer r = map_answer option_of (answer_of r)

-- ---- the call

-- a leg as its two points
abbrev pub leg_points : List Leg → List SphericalPoint
leg_points [] = []
leg_points (l ∷ ls) = l.from ∷ l.to ∷ leg_points ls

abbrev pub leg_floats : List Leg → List Float
leg_floats ls = flat (leg_points ls)

-- 7: six floats a piece; uncut always fits
abbrev pub legs_into : ℕ → Option (List Leg) → Answer (Option (List Leg))
legs_into room none = answered none
legs_into room (some ls) = unless_refused (room_check (6 * length ls) room) (answered (some ls))

unfoldable pub split_leg : Leg → List Float → ℕ → Answer (Option (List Leg))
split_leg l extra room =
    unless_refused (leg_check l)
    (unless_refused (extra_check extra) (and_then (for_each cut_legs (points extra) (l ∷ [])) (λ (ls : List Leg). legs_into room (unless_uncut ls))))
