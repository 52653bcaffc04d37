-- What splitting a leg answers, and the buffer after it, from the checks and from the legs that stand in the local list. Assumes nothing.
use mathlib.Core.Path.{◌≡◌, refl, sym, ap, ap₂, ◌∙◌}
use mathlib.Core.List.{List, [], ◌∷◌, ◌++◌}
use mathlib.Core.Option.{Option, none, some}
use Prim.Native.Nat.{ℕ, ◌*◌, ◌≤◌, ◌<◌}
use native.Mathlib.Omega.{arith}
use lib.ListN.{length, take, drop}
use lib.Ieee.{Float}
use Rattle.sphericalpoint.specs.declared.SphericalPoint.{SphericalPoint}
use Rattle.arcstring_check.specs.declared.check.Refusal.{Refusal}
use Rattle.arcstring_check.specs.Answer.{Answer, refused, answered, unless_refused, map_answer, and_then, leaves, refusal_number}
use Rattle.arcstring.specs.Points.{points, flat}
use Rattle.arcstring.specs.Splice.{splice}
use Rattle.arcstring_check.specs.Check.{list_check, room_check}
use Rattle.arcstring.specs.Work.{first_of_list}
use Rattle.arcstring.specs.Leg.{Leg, leg, leg_check}
use Rattle.arcstring_check.proofs.Answers.{stopped, went_on}
use Rattle.arcstring_check.proofs.Rooms.{no_room, room_lacks}
use Rattle.arcstring.proofs.Splices.{take_past_splice, spliced_next, splice-start}
use Rattle.arcstring.proofs.Firsts.{length-first_of_list}
use Rattle.arcstring_insert.specs.Steps.{for_each, extra_check}
use Rattle.arcstring_insert.proofs.Shifts.{floats}
use Rattle.arcstring_insert.proofs.Inserted.{first_floats}
use Rattle.arcstring_split_leg.specs.Legs.{legs_of}
use Rattle.arcstring_split_leg.specs.SplitLeg.{cut_legs, unless_uncut, piece_count, of_pieces, leg_floats, legs_into, split_leg}
use Rattle.arcstring_split_leg.proofs.LegPairs.{points_of_legs, length-legs_of_first, first_legs}
use Rattle.arcstring_split_leg.proofs.Uncut.{one_uncut, two_cut}

-- ---- the leg written at the start of a list stands there as its one leg

pub one-leg : (l : Leg) (s e : SphericalPoint) (w w1 w2 : List Float) → s ≡ l.from → e ≡ l.to
    → w1 ≡ splice w 0 (floats s) → w2 ≡ splice w1 3 (floats e) → legs_of (first_of_list 2 w2) ≡ l ∷ []
unfolding legs_of first_of_list
one-leg l s e w w1 w2 start end first second =
    ap (λ (v : List Float). legs_of (points (take 6 v))) (spliced_next w w1 w2 0 (floats s) 3 (floats e) first second (omega arith) refl)
    ∙ ap (λ (v : List Float). legs_of (points v)) (take_past_splice w 0 (floats s ++ floats e) (omega arith))
    ∙ ap₂ (λ (a b : SphericalPoint). leg a b ∷ []) start end

-- ---- the legs written to a buffer

legs_written : (m : ℕ) (w old : List Float) → 6 * m ≤ length w
    → splice old 0 (take (3 * (2 * m)) w)
    ≡ leg_floats (first_legs m w) ++ drop (length (leg_floats (first_legs m w))) old
legs_written m w old room =
    splice-start old (take (3 * (2 * m)) w)
    ∙ sym
    (ap (λ (ps : List SphericalPoint). flat ps ++ drop (length (flat ps)) old)
    (points_of_legs m (first_of_list (2 * m) w) (length-first_of_list (2 * m) w (omega arith)))
    ∙ ap (λ (v : List Float). v ++ drop (length v) old) (first_floats w (2 * m) (omega arith)))

-- ---- a buffer that is too short for so many elements is too short for more

room_lacked : (e : Refusal) (part all lent : ℕ) → refusal_number e ≡ room_check part lent → part ≤ all → refusal_number e ≡ room_check all lent
room_lacked e part all lent told within =
    let short = room_lacks e part lent told in told ∙ no_room part lent short ∙ sym (no_room all lent (omega arith))

-- ---- the answer, and the buffer

module _ (l : Leg) (extra old : List Float) where
  abbrev answer : Answer (Option (List Leg))
  answer = split_leg l extra (length old)

  abbrev pub Splits : Answer (Option ℕ) → List Float → Type 0
  Splits r out = (r ≡ map_answer piece_count answer) × (out ≡ leaves (map_answer (of_pieces leg_floats) answer) old)

  by_answer : (a : Answer (Option (List Leg))) → a ≡ answer → Splits (map_answer piece_count a) (leaves (map_answer (of_pieces leg_floats) a) old)
  by_answer a r = (ap (map_answer piece_count) r, ap (λ (b : Answer (Option (List Leg))). leaves (map_answer (of_pieces leg_floats) b) old) r)

  -- refused by the leg
  pub refused_leg : (e : Refusal) → refusal_number e ≡ leg_check l → Splits (refused (refusal_number e)) old
  unfolding split_leg
  refused_leg e told = by_answer (refused (refusal_number e)) (stopped e _ _ told)

  module _ (accepted : 0 ≡ leg_check l) where
    -- by the points
    pub refused_list : (e : Refusal) → refusal_number e ≡ list_check 0 extra → Splits (refused (refusal_number e)) old
    unfolding split_leg extra_check
    refused_list e told = by_answer (refused (refusal_number e)) (stopped e _ _ told ∙ went_on _ _ accepted)

    -- past the checks: `a` is what cutting the leg at the points answers
    module _ (accepted' : 0 ≡ list_check 0 extra) where
      abbrev into : List Leg → Answer (Option (List Leg))
      into ls = legs_into (length old) (unless_uncut ls)

      ends : (a : Answer (List Leg)) (start : List Leg) → start ≡ l ∷ [] → a ≡ for_each cut_legs (points extra) start → and_then a into ≡ answer
      unfolding split_leg extra_check
      ends a start one cuts =
          ap (λ (x : Answer (List Leg)). and_then x into) (cuts ∙ ap (for_each cut_legs (points extra)) one)
          ∙ went_on _ _ accepted' ∙ went_on _ _ accepted

      pub refused_cut : (r : ℕ) (start : List Leg) → start ≡ l ∷ [] → refused r ≡ for_each cut_legs (points extra) start → Splits (refused r) old
      refused_cut r start one cuts = by_answer (refused r) (ends (refused r) start one cuts)

      -- m legs stand at the start of w
      module _ (start : List Leg) (one : start ≡ l ∷ []) (m : ℕ) (w : List Float) (room : 6 * m ≤ length w)
          (cuts : answered (first_legs m w) ≡ for_each cut_legs (points extra) start) where
        abbrev legs : List Leg
        legs = first_legs m w

        count : length legs ≡ m
        count = length-legs_of_first m w room

        pub uncut_split : m < 2 → Splits (answered none) old
        uncut_split h =
            by_answer (answered none) (sym (ap (legs_into (length old)) (one_uncut legs (omega (arith, count)))) ∙ ends (answered legs) start one cuts)

        -- two legs at least, by what the check of the room answers
        by_room : 2 ≤ m → unless_refused (room_check (6 * m) (length old)) (answered (some legs)) ≡ answer
        by_room two =
            ap (λ (n : ℕ). unless_refused (room_check (6 * n) (length old)) (answered (some legs))) (sym count)
            ∙ sym (ap (legs_into (length old)) (two_cut legs (omega (arith, count)))) ∙ ends (answered legs) start one cuts

        -- a buffer that is too short for a part of them is too short for all
        pub cramped_split : 2 ≤ m → (e : Refusal) (part : ℕ) → refusal_number e ≡ room_check part (length old) → part ≤ 6 * m
            → Splits (refused (refusal_number e)) old
        cramped_split two e part told less =
            by_answer (refused (refusal_number e)) (stopped e _ _ (room_lacked e part (6 * m) (length old) told less) ∙ by_room two)

        pub written_split : (out : List Float) → 2 ≤ m → 0 ≡ room_check (6 * m) (length old) → out ≡ splice old 0 (take (3 * (2 * m)) w)
            → Splits (answered (some m)) out
        written_split out two told copied =
            let done = by_answer (answered (some legs)) (went_on _ _ told ∙ by_room two) in
            (ap (λ (n : ℕ). answered (some n)) (sym count) ∙ done.0, copied ∙ legs_written m w old room ∙ done.1)
