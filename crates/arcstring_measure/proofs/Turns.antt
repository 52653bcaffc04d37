-- Turn orientations: the neighbours of a vertex, the float for each vertex written one after the other, and what the call answers and leaves. Assumes nothing.
use mathlib.Core.Path.{◌≡◌, refl, sym, ap, ◌∙◌}
use mathlib.Core.Bool.{Bool, true, false, not, ◌&&◌, ◌||◌}
use mathlib.Core.List.{List, [], ◌∷◌, ◌++◌}
use Prim.Native.Nat.{ℕ, zero, suc, ◌+◌, ◌-◌, ◌*◌, ◌/◌, ◌<◌}
use native.Mathlib.Numerals.{add-one}
use native.Mathlib.Omega.{arith}
use lib.Dec.{eqb}
use lib.ListN.{length, get_or, set, length-append}
use lib.Ieee.{Float, nan, binary64, of_bits, div}
use borrow.Author.Tests.{eq-eqb, ne_eqb}
use Rattle.sphericalpoint.specs.declared.SphericalPoint.{SphericalPoint}
use Rattle.arcstring_check.specs.declared.check.Refusal.{Refusal}
use Rattle.arcstring_check.specs.Answer.{Answer, refused, answered, leaves, pick, refusal_number}
use Rattle.arcstring.specs.Points.{points, point_at, no_point}
use Rattle.arcstring.specs.Splice.{splice}
use Rattle.arcstring_check.specs.Check.{stored_check, room_check}
use Rattle.arcstring_check.proofs.Answers.{stopped, went_on}
use Rattle.arcstring.proofs.Flat.{length-points, point_at_lem, count_points}
use Rattle.arcstring.proofs.Splices.{set-splice, spliced_next, splice_front, splice_nothing}
use Rattle.arcstring_measure.specs.Measure.{position_before, turn, turn_at, turns_to, turn_orientations, turns_result}
use Rattle.arcstring.specs.Leg.{position_after}

-- ---- the neighbours

module _ (k n : ℕ) where
  pub before_first : k ≡ 0 → n - 1 ≡ position_before k n
  unfolding position_before
  before_first h = rw (eq-eqb k 0 h)

  pub before_other : (k ≡ 0 → ⊥) → k - 1 ≡ position_before k n
  unfolding position_before
  before_other h = rw (ne_eqb k 0 h)

-- ---- the float at a vertex

-- the code's NaN
pub nought_by_nought : div binary64 (of_bits binary64 0) (of_bits binary64 0) ≡ nan
unfolding div of_bits
nought_by_nought = refl

module _ (v : List Float) (n : ℕ) (closed : Bool) (k : ℕ) (whole : length v ≡ 3 * n) where
  by_end_lem : (b : Bool) → not closed && (eqb k 0 || eqb (k + 1) n) ≡ b
      → turn_at (points v) closed k ≡ pick b nan
      (turn (get_or (points v) (position_before k n) no_point) (get_or (points v) k no_point) (get_or (points v) (position_after k n) no_point))
  unfolding turn_at
  by_end_lem b h = rw (length-points n v whole, h)

  -- an open end
  pub no_turn : (x : Float) → x ≡ nan → not closed && (eqb k 0 || eqb (k + 1) n) ≡ true → x ≡ turn_at (points v) closed k
  no_turn x e h = e ∙ sym (by_end_lem true h)

  -- a, b and c as the code reads them at i, k and j
  pub turn_there : (i j : ℕ) (a b c : SphericalPoint) (r : Float) → not closed && (eqb k 0 || eqb (k + 1) n) ≡ false → k < n → i < n → j < n
      → i ≡ position_before k n → a ≡ point_at v i → b ≡ point_at v k → j ≡ position_after k n → c ≡ point_at v j → r ≡ turn a b c
      → r ≡ turn_at (points v) closed k
  turn_there i j a b c r h hk hi hj ei ea eb ej ec er =
      let pa : get_or (points v) i no_point ≡ point_at v i = point_at_lem v i no_point (omega arith) in
      let pb : get_or (points v) k no_point ≡ point_at v k = point_at_lem v k no_point (omega arith) in
      let pc : get_or (points v) j no_point ≡ point_at v j = point_at_lem v j no_point (omega arith) in
      let t : turn_at (points v) closed k ≡ turn (get_or (points v) (position_before k n) no_point) (get_or (points v) k no_point)
      (get_or (points v) (position_after k n) no_point) = by_end_lem false h in
      cc

-- ---- one float after the other

pub length_turns : (ps : List SphericalPoint) (closed : Bool) (k : ℕ) → length (turns_to ps closed k) ≡ k
unfolding turns_to
length_turns ps closed zero = refl
length_turns ps closed (suc k) = length-append (turns_to ps closed k) (turn_at ps closed k ∷ []) ∙ omega (arith, length_turns ps closed k)

turns_more : (ps : List SphericalPoint) (closed : Bool) (k : ℕ) → turns_to ps closed (k + 1) ≡ turns_to ps closed k ++ (turn_at ps closed k ∷ [])
unfolding turns_to
turns_more ps closed k = rw (add-one k)

pub turns_none : (ps : List SphericalPoint) (closed : Bool) (old : List Float) → old ≡ splice old 0 (turns_to ps closed 0)
unfolding turns_to
turns_none ps closed old = sym (splice_nothing old 0)

pub turns_step : (ps : List SphericalPoint) (closed : Bool) (k : ℕ) (old out : List Float) (x : Float) → k < length old → length out ≡ length old
    → out ≡ splice old 0 (turns_to ps closed k) → x ≡ turn_at ps closed k → set out k x ≡ splice old 0 (turns_to ps closed (k + 1))
turns_step ps closed k old out x h l before e =
    spliced_next old out (set out k x) 0 (turns_to ps closed k) k (x ∷ []) before (set-splice out k x (omega arith)) (omega arith)
    (omega (arith, length_turns ps closed k))
    ∙ ap (λ (y : Float). splice old 0 (turns_to ps closed k ++ (y ∷ []))) e
    ∙ ap (splice old 0) (sym (turns_more ps closed k))

-- ---- the answer, and the buffer

module _ (v : List Float) (closed : Bool) (old : List Float) where
  abbrev Turned : Answer ℕ → List Float → Type 0
  Turned r out = (r ≡ turns_result (turn_orientations v closed (length old))) × (out ≡ leaves (turn_orientations v closed (length old)) old)

  not_turned : (e : Refusal) → refused (refusal_number e) ≡ turn_orientations v closed (length old) → Turned (refused (refusal_number e)) old
  not_turned e r = (ap turns_result r, ap (λ (a : Answer (List Float)). leaves a old) r)

  pub refused_turns : (e : Refusal) → refusal_number e ≡ stored_check v → Turned (refused (refusal_number e)) old
  unfolding turn_orientations
  refused_turns e number = not_turned e (stopped e (stored_check v) _ number)

  module _ (passed : 0 ≡ stored_check v) where
    counted : room_check (length v / 3) (length old) ≡ room_check (length (points v)) (length old)
    counted = ap (λ (n : ℕ). room_check n (length old)) (sym (count_points v))

    pub cramped_turns : (e : Refusal) → refusal_number e ≡ room_check (length v / 3) (length old) → Turned (refused (refusal_number e)) old
    unfolding turn_orientations
    cramped_turns e number =
        not_turned e (stopped e (room_check (length (points v)) (length old)) _ (number ∙ counted) ∙ went_on (stored_check v) _ passed)

    pub written_turns : (out : List Float) → 0 ≡ room_check (length v / 3) (length old) → out ≡ splice old 0 (turns_to (points v) closed (length v / 3))
        → Turned (answered (length v / 3)) out
    unfolding turn_orientations
    written_turns out room w =
        let turns = turns_to (points v) closed (length (points v)) in
        let r : answered turns ≡ turn_orientations v closed (length old) =
        went_on (room_check (length (points v)) (length old)) (answered turns) (room ∙ counted) ∙ went_on (stored_check v) _ passed in (
          ap answered (sym (length_turns (points v) closed (length (points v)) ∙ count_points v)) ∙ ap turns_result r,
          w ∙ ap (λ (n : ℕ). splice old 0 (turns_to (points v) closed n)) (sym (count_points v)) ∙ splice_front old (length turns) turns refl
              ∙ ap (λ (a : Answer (List Float)). leaves a old) r,
        )
