-- Within a row: its string stays the same, and the floats of the other string stay as they are; and a name with its blank leads to where `in_row` stands, as
-- `specs/TextLaws.antt` has it. Assumes nothing.
use mathlib.Core.Path.{◌≡◌, refl, ap, ◌∙◌}
use mathlib.Core.Bool.{Bool, true, false}
use mathlib.Core.List.{List, [], ◌∷◌}
use mathlib.Core.Option.{Option, none, some}
use Prim.Native.Nat.{ℕ, ◌+◌, ◌*◌}
use lib.Dec.{eqb}
use lib.Ieee.{Float, binary64, of_bits}
use Rattle.arcstring_check.specs.Answer.{pick}
use Rattle.textform.specs.Text.{in_turn}
use Rattle.textform.specs.declared.inner.read.Part.{Part}
use Rattle.textform.specs.declared.inner.read.Part.TheVariants as P
use Rattle.textform.specs.Text.{blank, letter_a, letter_b, row_start, State, part_at, row_part, float_part, place_after, hex_digit, malformed, onward, in_row}
use Rattle.textform.specs.Text.{if_digit, with_float, step_at, step_with, fed_with}
use Rattle.textform.specs.TextLaws.{PastName}
use Rattle.textform.proofs.inner.read.Places.{rule_at}

module _ (add : Float → List Float → List Float) (s : State) where
  -- a state after a byte of the same row: of the same string, and if that is B, with A's floats as they were
  pub record SameRow (t : State) : Type 0 where
    pub same_string : t.second ≡ s.second
    pub same_first : s.second ≡ true → t.a ≡ s.a

  by_test : (b : Bool) (word : ℕ) → SameRow (pick b (onward s.second word s) (malformed s))
  by_test true word = record { same_string = refl; same_first = λ h. refl }
  by_test false word = record { same_string = refl; same_first = λ h. refl }

  with_float_lem : (x : Float) → SameRow (with_float add x s)
  with_float_lem x = record { same_string = refl; same_first = λ h. ap (λ (b : Bool). pick b s.a (add x s.a)) h }

  by_part : (part : Part) (byte : ℕ) → (s.place ≡ row_start → ⊥) → part_at s.place ≡ part → SameRow (step_at add part s byte)
  by_part (P.Exactly c) byte past here = by_test (eqb byte c) 0
  by_part P.Name byte past here = absurd (past (rule_at s.place P.Name here).1)
  by_part P.Digit byte past here = by_digit (hex_digit byte)
    where
      by_digit : (o : Option ℕ) → SameRow (if_digit o (λ (d : ℕ). onward s.second (16 * s.word + d) s) (malformed s))
      by_digit none = by_test false 0
      by_digit (some d) = by_test true (16 * s.word + d)
  by_part P.LastDigit byte past here = by_digit (hex_digit byte)
    where
      by_digit : (o : Option ℕ) → SameRow (if_digit o (λ (d : ℕ). with_float add (of_bits binary64 (16 * s.word + d)) s) (malformed s))
      by_digit none = by_test false 0
      by_digit (some d) = with_float_lem (of_bits binary64 (16 * s.word + d))
  by_part P.Nothing byte past here = by_test false 0

  -- a byte anywhere but where a row starts
  pub same_row : (byte : ℕ) → (s.place ≡ row_start → ⊥) → SameRow (step_with add s byte)
  unfolding step_with
  same_row byte past = by_part (part_at s.place) byte past refl

-- a name and a blank
by_name : (add : Float → List Float → List Float) (second : Bool) (s : State)
    → fed_with add (record { place = row_start; second = s.second; word = s.word; a = s.a; b = s.b }) (pick second letter_b letter_a ∷ blank ∷ [])
    ≡ in_row second s
unfolding in_turn step_with part_at row_part float_part place_after
by_name add true s = refl
by_name add false s = refl

pub past_name_lem : PastName
past_name_lem add second s here =
    ap (λ (p : ℕ). fed_with add (record { place = p; second = s.second; word = s.word; a = s.a; b = s.b }) (pick second letter_b letter_a ∷ blank ∷ [])) here
    ∙ by_name add second s
