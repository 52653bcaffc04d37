-- The whole reading: what the code keeps of it is what is kept of the plain reading. Assumes nothing.
use mathlib.Core.Path.{◌≡◌, refl, sym, ap, ◌∙◌}
use mathlib.Core.Bool.{Bool, true, false}
use mathlib.Core.List.{List, [], ◌∷◌, ◌++◌, map, map-append}
use mathlib.Core.Option.{Option, none, some}
use Prim.Native.Nat.{ℕ, ◌+◌, ◌*◌, ◌≤◌}
use native.Mathlib.Omega.{arith}
use lib.Dec.{ltb, eqb}
use lib.ListN.{length, take, length-append, length-map}
use lib.Seq.{take_all, take-append-le, length-take-le}
use lib.Ieee.{Float, binary64, of_bits}
use borrow.Author.Tests.{ltb-true, ltb-false}
use Rattle.arcstring_check.specs.Answer.{pick}
use Rattle.textform.specs.declared.inner.read.Part.{Part}
use Rattle.textform.specs.declared.inner.read.Part.TheVariants as P
use Rattle.textform.specs.Text.{letter_a, letter_b, State, start, part_at, place_after, hex_digit, malformed, onward, if_digit, append, with_float, step_at}
use Rattle.textform.specs.Text.{step_with, fed_with, reading}
use Rattle.textform.specs.Text.{in_turn}
use Rattle.textform.specs.Kept.{floats_kept, in_place, keep, kept_reading}
use Rattle.textform.proofs.inner.read.Keeping.{keep_full, keep_more}

-- ---- what is kept

-- what is kept of a list: its first 1,025 points, with 2 in the place of each NaN
unfoldable pub kept_of : List Float → List Float
kept_of v = take floats_kept (map in_place v)

-- what is kept of a state
abbrev pub kept_state : State → State
kept_state s = record { place = s.place; second = s.second; word = s.word; a = kept_of s.a; b = kept_of s.b }

-- a short list is kept whole
pub kept_short : (v : List Float) → length v ≤ floats_kept → kept_of v ≡ map in_place v
unfolding kept_of
kept_short v h = take_all floats_kept (map in_place v) (omega (arith, length-map v in_place))

pub kept_long : (v : List Float) → floats_kept ≤ length v → length (kept_of v) ≡ floats_kept
unfolding kept_of
kept_long v h = length-take-le floats_kept (map in_place v) (omega (arith, length-map v in_place))

-- one float more
kept_append : (x : Float) (v : List Float) → keep x (kept_of v) ≡ kept_of (append x v)
unfolding kept_of
kept_append x v = by_length (ltb (length v) floats_kept) refl
  where
    by_length : (t : Bool) → ltb (length v) floats_kept ≡ t → keep x (kept_of v) ≡ kept_of (append x v)
    by_length true e =
        let l = ltb-true (length v) floats_kept e in
        let n : length (kept_of v) ≡ length v = ap length (kept_short v (omega arith)) ∙ length-map v in_place in
        sym (keep_more x (kept_of v) (omega arith))
        ∙ ap (λ (k : List Float). k ++ (in_place x ∷ [])) (kept_short v (omega arith))
        ∙ sym (map-append in_place v (x ∷ []))
        ∙ sym (kept_short (append x v) (omega (arith, length-append v (x ∷ []))))
    by_length false e =
        let l = ltb-false (length v) floats_kept e in
        let first = take-append-le floats_kept (map in_place v) (in_place x ∷ []) (omega (arith, length-map v in_place)) in
        sym (keep_full x (kept_of v) (omega (arith, kept_long v l))) ∙ sym (ap (take floats_kept) (map-append in_place v (x ∷ [])) ∙ first)

module _ (s : State) where
  kept_float : (x : Float) → with_float keep x (kept_state s) ≡ kept_state (with_float append x s)
  kept_float x = λ i. record { place = place_after s.place; second = s.second; word = 0; a = a' s.second i; b = b' s.second i }
    where
      a' : (t : Bool) → pick t (kept_of s.a) (keep x (kept_of s.a)) ≡ kept_of (pick t s.a (append x s.a))
      a' true = refl
      a' false = kept_append x s.a

      b' : (t : Bool) → pick t (keep x (kept_of s.b)) (kept_of s.b) ≡ kept_of (pick t (append x s.b) s.b)
      b' true = kept_append x s.b
      b' false = refl

  -- a byte, whatever part stands at its place
  kept_part : (part : Part) (byte : ℕ) → step_at keep part (kept_state s) byte ≡ kept_state (step_at append part s byte)
  kept_part (P.Exactly c) byte = by_test (eqb byte c)
    where
      by_test : (t : Bool) → pick t (onward s.second 0 (kept_state s)) (malformed (kept_state s)) ≡ kept_state (pick t (onward s.second 0 s) (malformed s))
      by_test true = refl
      by_test false = refl
  kept_part P.Name byte = by_test (eqb byte letter_a) (eqb byte letter_b)
    where
      by_test : (t u : Bool) → pick t (onward false 0 (kept_state s)) (pick u (onward true 0 (kept_state s)) (malformed (kept_state s)))
          ≡ kept_state (pick t (onward false 0 s) (pick u (onward true 0 s) (malformed s)))
      by_test true u = refl
      by_test false true = refl
      by_test false false = refl
  kept_part P.Digit byte = by_digit (hex_digit byte)
    where
      by_digit : (o : Option ℕ) → if_digit o (λ (d : ℕ). onward s.second (16 * s.word + d) (kept_state s)) (malformed (kept_state s))
          ≡ kept_state (if_digit o (λ (d : ℕ). onward s.second (16 * s.word + d) s) (malformed s))
      by_digit none = refl
      by_digit (some d) = refl
  kept_part P.LastDigit byte = by_digit (hex_digit byte)
    where
      by_digit : (o : Option ℕ) → if_digit o (λ (d : ℕ). with_float keep (of_bits binary64 (16 * s.word + d)) (kept_state s)) (malformed (kept_state s))
          ≡ kept_state (if_digit o (λ (d : ℕ). with_float append (of_bits binary64 (16 * s.word + d)) s) (malformed s))
      by_digit none = refl
      by_digit (some d) = kept_float (of_bits binary64 (16 * s.word + d))
  kept_part P.Nothing byte = refl

  pub kept_step : (byte : ℕ) → step_with keep (kept_state s) byte ≡ kept_state (step_with append s byte)
  unfolding step_with
  kept_step byte = kept_part (part_at s.place) byte

kept_fed_lem : (s : State) (bytes : List ℕ) → fed_with keep (kept_state s) bytes ≡ kept_state (fed_with append s bytes)
unfolding in_turn
kept_fed_lem s [] = refl
kept_fed_lem s (byte ∷ bytes) = ap (λ (t : State). fed_with keep t bytes) (kept_step s byte) ∙ kept_fed_lem (step_with append s byte) bytes

-- the reading that the code keeps is what is kept of the plain reading
pub kept_reading_lem : (bytes : List ℕ) → kept_reading bytes ≡ kept_state (reading bytes)
unfolding kept_reading reading kept_of
kept_reading_lem bytes = kept_fed_lem start bytes
