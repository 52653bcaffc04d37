-- A row written out is read as its three floats, by the machine of two strings and by any machine that does the same within a row: past the name and the blank
-- after it, the rest of the row adds the floats to the list of its string, and the next row may begin. Assumes nothing.
use mathlib.Core.Path.{◌≡◌, refl, sym, ap, ◌∙◌}
use mathlib.Core.Bool.{Bool, true, false}
use mathlib.Core.List.{List, [], ◌∷◌, ◌++◌, append_assoc}
use mathlib.Core.Option.{Option, some}
use Prim.Native.Nat.{ℕ, zero, suc, ◌+◌, ◌-◌, ◌*◌, ◌/◌, ◌%◌, ◌^◌, ◌≤◌, ◌<◌}
use native.Mathlib.Nat.{pow-suc}
use native.Mathlib.Omega.{arith}
use lib.Dec.{T, ltb}
use lib.Ieee.{Float, binary64, of_bits}
use borrow.Author.Tests.{ltb-true, ltb-false, ne_eqb}
use Rattle.arcstring_check.specs.Answer.{pick}
use Rattle.textform.specs.declared.inner.read.Part.{Part}
use Rattle.textform.specs.declared.inner.read.Part.TheVariants as P
use Rattle.textform.specs.Text.{blank, line_feed, letter_a, letter_b, row_start, row_last, part_at, row_part, float_part, place_after, hex_digit, in_turn}
use Rattle.textform.specs.Text.{State, malformed, onward, in_row, if_digit, append, with_float, step_at, step_with}
use Rattle.textform.specs.Text as Text
use Rattle.textform.specs.Written.{hex_glyph, hex_digits, word_digits, word_text, Row, RowFits, row_rest, row_floats}
use Rattle.textform.proofs.Rows.{past_name_lem}
use Rattle.textform.proofs.Turns.{fed_then}
use Rattle.textform.proofs.inner.read.Digits.{at_digit, at_letter}
use Rattle.textform.proofs.inner.read.Places.{all_below, at}

-- ---- a digit

pub by_size : (d : ℕ) {t : Bool} → ltb d 10 ≡ t → hex_glyph d ≡ pick t (48 + d) (55 + d)
unfolding hex_glyph
by_size d e = ap (λ (t : Bool). pick t (48 + d) (55 + d)) e

glyph_read : (d : ℕ) → d < 16 → hex_digit (hex_glyph d) ≡ some d
glyph_read d h = go (ltb d 10) refl
  where
    go : (t : Bool) → ltb d 10 ≡ t → hex_digit (hex_glyph d) ≡ some d
    go true e =
        let l = ltb-true d 10 e in
        let value : 48 + d - 48 ≡ d = omega arith in
        ap hex_digit (by_size d e) ∙ sym (at_digit (48 + d) (omega arith) (omega arith)) ∙ ap some value
    go false e =
        let l = ltb-false d 10 e in
        let value : 55 + d - 65 + 10 ≡ d = omega arith in
        ap hex_digit (by_size d e) ∙ sym (at_letter (55 + d) (omega arith) (omega arith)) ∙ ap some value

pub next_place : (place : ℕ) → place < row_last → place_after place ≡ place + 1
unfolding place_after
next_place place h = ap (λ (t : Bool). pick t row_start (place + 1)) (ne_eqb place row_last (λ e. omega arith))

-- at this place of its row, with these digits
abbrev pub moved : ℕ → ℕ → State → State
moved place word s = record { place = place; second = s.second; word = word; a = s.a; b = s.b }

-- with these floats more
abbrev pub with_floats : List Float → State → State
with_floats xs s = record {
  place = s.place;
  second = s.second;
  word = s.word;
  a = pick s.second s.a (s.a ++ xs);
  b = pick s.second (s.b ++ xs) s.b;
}

module _ (s : State) (place word d : ℕ) (inside : place < row_last) (digit : d < 16) where
  pub digit_step : part_at place ≡ P.Digit → Text.step (moved place word s) (hex_glyph d) ≡ moved (place + 1) (16 * word + d) s
  unfolding step_with
  digit_step here =
      ap (λ (p : Part). step_at append p (moved place word s) (hex_glyph d)) here
      ∙ ap (λ (o : Option ℕ). if_digit o (λ (v : ℕ). onward s.second (16 * word + v) (moved place word s)) (malformed s)) (glyph_read d digit)
      ∙ ap (λ (p : ℕ). moved p (16 * word + d) s) (next_place place inside)

  pub last_digit_step : part_at place ≡ P.LastDigit
      → Text.step (moved place word s) (hex_glyph d) ≡ moved (place + 1) 0 (with_floats (of_bits binary64 (16 * word + d) ∷ []) s)
  unfolding step_with
  last_digit_step here =
      ap (λ (p : Part). step_at append p (moved place word s) (hex_glyph d)) here
      ∙ ap (λ (o : Option ℕ). if_digit o (λ (v : ℕ). with_float append (of_bits binary64 (16 * word + v)) (moved place word s)) (malformed s))
      (glyph_read d digit)
      ∙ ap (λ (p : ℕ). moved p 0 (with_floats (of_bits binary64 (16 * word + d) ∷ []) s)) (next_place place inside)

-- ---- where a float stands

-- 15 digits and the last one, from a place on
pub record FloatAt (first : ℕ) : Type 0 where
  pub past : row_start < first
  pub inside : first + 15 < row_last
  pub digits : (i : ℕ) → i < 15 → part_at (first + i) ≡ P.Digit
  pub last : part_at (first + 15) ≡ P.LastDigit

abbrev is_digit : Part → Bool
is_digit (P.Exactly c) = false
is_digit P.Name = false
is_digit P.Digit = true
is_digit P.LastDigit = false
is_digit P.Nothing = false

is_digit_lem : (part : Part) → T (is_digit part) → part ≡ P.Digit
is_digit_lem P.Digit t = refl
is_digit_lem (P.Exactly _) t = elim t [ ]
is_digit_lem P.Name t = elim t [ ]
is_digit_lem P.LastDigit t = elim t [ ]
is_digit_lem P.Nothing t = elim t [ ]

module _ (first : ℕ) where
  abbrev digit_at : ℕ → Bool
  digit_at i = is_digit (part_at (first + i))

  digits_by_test : T (all_below digit_at 15) → (i : ℕ) → i < 15 → part_at (first + i) ≡ P.Digit
  digits_by_test t i h = is_digit_lem (part_at (first + i)) (at digit_at 15 t i h)

-- the three of a row
pub first_float : FloatAt 15
unfolding part_at row_part float_part
first_float = record { past = omega arith; inside = omega arith; digits = digits_by_test 15 tt; last = refl }

pub second_float : FloatAt 32
unfolding part_at row_part float_part
second_float = record { past = omega arith; inside = omega arith; digits = digits_by_test 32 tt; last = refl }

pub third_float : FloatAt 49
unfolding part_at row_part float_part
third_float = record { past = omega arith; inside = omega arith; digits = digits_by_test 49 tt; last = refl }

-- ---- the rest of a row

-- where the next row may begin, with these floats more in the list of this string
abbrev pub after_row : Bool → List Float → State → State
after_row second xs s = record { place = row_start; second = second; word = 0; a = pick second s.a (s.a ++ xs); b = pick second (s.b ++ xs) s.b }

-- one float after another
pub floats_joined : (second : Bool) (x y z : Float) (s : State)
    → moved row_start 0 (with_floats (z ∷ []) (with_floats (y ∷ []) (with_floats (x ∷ []) (in_row second s)))) ≡ after_row second (x ∷ y ∷ z ∷ []) s
floats_joined true x y z s =
    ap (λ (l : List Float). record { place = row_start; second = true; word = 0; a = s.a; b = l }) (simp append_assoc)
floats_joined false x y z s =
    ap (λ (l : List Float). record { place = row_start; second = false; word = 0; a = l; b = s.b }) (simp append_assoc)

-- A machine that holds the state of two strings, whatever else it holds, and does with a byte within a row what the machine of two strings does: the same one,
-- or that of a season.
module _ {S : Type 0} (step : S → ℕ → S) (holding : State → S)
    (within_row : (s : State) (byte : ℕ) → (s.place ≡ row_start → ⊥) → step (holding s) byte ≡ holding (Text.step s byte)) where
  one_byte : (s : State) (byte : ℕ) → (s.place ≡ row_start → ⊥) → in_turn step (holding s) (byte ∷ []) ≡ holding (Text.step s byte)
  unfolding in_turn
  one_byte s byte past = within_row s byte past

  module _ (s : State) (first : ℕ) (here : FloatAt first) where
    digits_fed : (k w : ℕ) → k ≤ 15 → w < 16 ^ k → in_turn step (holding (moved first 0 s)) (hex_digits k w) ≡ holding (moved (first + k) w s)
    unfolding hex_digits in_turn
    digits_fed zero w few fits =
        let none : 0 ≡ w = omega arith in
        let same : first ≡ first + 0 = omega arith in
        λ i. holding (moved (same i) (none i) s)
    digits_fed (suc k) w few fits =
        let p = pow-suc 16 k in
        let inside = here.inside in
        let past = here.past in
        let whole : 16 * (w / 16) + w % 16 ≡ w = omega arith in
        let next : first + k + 1 ≡ first + suc k = omega arith in
        let byte = one_byte (moved (first + k) (w / 16) s) (hex_glyph (w % 16)) (λ e. omega arith) in
        let digit = digit_step s (first + k) (w / 16) (w % 16) (omega arith) (omega arith) (here.digits k (omega arith)) in
        fed_then step (holding (moved first 0 s)) (hex_digits k (w / 16)) (hex_glyph (w % 16) ∷ []) (digits_fed k (w / 16) (omega arith) (omega arith))
        (byte ∙ ap holding digit ∙ (λ i. holding (moved (next i) (whole i) s)))

    float-fed : (w : ℕ) → w < 2 ^ 64
        → in_turn step (holding (moved first 0 s)) (hex_digits word_digits w) ≡ holding (moved (first + 16) 0 (with_floats (of_bits binary64 w ∷ []) s))
    unfolding hex_digits
    float-fed w fits =
        let past = here.past in
        let whole : 16 * (w / 16) + w % 16 ≡ w = omega arith in
        let next : first + 15 + 1 ≡ first + 16 = omega arith in
        let byte = one_byte (moved (first + 15) (w / 16) s) (hex_glyph (w % 16)) (λ e. omega arith) in
        let digit = last_digit_step s (first + 15) (w / 16) (w % 16) here.inside (omega arith) here.last in
        fed_then step (holding (moved first 0 s)) (hex_digits 15 (w / 16)) (hex_glyph (w % 16) ∷ []) (digits_fed 15 (w / 16) (omega arith) (omega arith))
        (byte ∙ ap holding digit ∙ (λ i. holding (moved (next i) 0 (with_floats (of_bits binary64 (whole i) ∷ []) s))))

    -- a word after a blank
    word_fed : (t : S) (w : ℕ) → w < 2 ^ 64 → step t blank ≡ holding (moved first 0 s)
        → in_turn step t (word_text w) ≡ holding (moved (first + 16) 0 (with_floats (of_bits binary64 w ∷ []) s))
    unfolding in_turn
    word_fed t w fits h = ap (λ (u : S). in_turn step u (hex_digits word_digits w)) h ∙ float-fed w fits

  -- the bytes between two words, and after the third
  module _ (s : State) where
    second_blank : step (holding (moved 31 0 s)) blank ≡ holding (moved 32 0 s)
    unfolding step_with part_at row_part float_part place_after
    second_blank = within_row (moved 31 0 s) blank (λ e. omega arith)

    third_blank : step (holding (moved 48 0 s)) blank ≡ holding (moved 49 0 s)
    unfolding step_with part_at row_part float_part place_after
    third_blank = within_row (moved 48 0 s) blank (λ e. omega arith)

    row_ends : in_turn step (holding (moved 65 0 s)) (line_feed ∷ []) ≡ holding (moved row_start 0 s)
    unfolding in_turn step_with part_at row_part float_part place_after
    row_ends = within_row (moved 65 0 s) line_feed (λ e. omega arith)

  -- the rest of a row, from where the blank after its name leads into the row
  pub row_fed : (t : S) (second : Bool) (r : Row) (s : State) → RowFits r → step t blank ≡ holding (in_row second s)
      → in_turn step t (row_rest r) ≡ holding (after_row second (row_floats r) s)
  row_fed t second r s fits h =
      let x = of_bits binary64 r.x in
      let y = of_bits binary64 r.y in
      let z = of_bits binary64 r.z in
      let s1 = with_floats (x ∷ []) (in_row second s) in
      let s2 = with_floats (y ∷ []) s1 in
      let s3 = with_floats (z ∷ []) s2 in
      let one = word_fed (in_row second s) 15 first_float t r.x fits.x h in
      let two = word_fed s1 32 second_float (holding (moved 31 0 s1)) r.y fits.y (second_blank s1) in
      let three = word_fed s2 49 third_float (holding (moved 48 0 s2)) r.z fits.z (third_blank s2) in
      let from-third = fed_then step (holding (moved 48 0 s2)) (word_text r.z) (line_feed ∷ []) three (row_ends s3) in
      let from_Second = fed_then step (holding (moved 31 0 s1)) (word_text r.y) (word_text r.z ++ (line_feed ∷ [])) two from-third in
      fed_then step t (word_text r.x) (word_text r.y ++ (word_text r.z ++ (line_feed ∷ []))) one from_Second
      ∙ ap holding (floats_joined second x y z s)

-- a row of A or of B, to the machine of two strings itself
pub row_read : (second : Bool) (r : Row) (s : State) → RowFits r → s.place ≡ row_start
    → Text.fed s (pick second letter_b letter_a ∷ row_rest r) ≡ after_row second (row_floats r) s
unfolding in_turn
row_read second r s fits here =
    row_fed Text.step (λ (t : State). t) (λ t byte past. refl) (Text.step s (pick second letter_b letter_a)) second r s fits
    (past_name_lem append second s here)
