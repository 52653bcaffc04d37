-- What is well formed was written out: bytes that lead to where the input may end begin with the names line, or within a row with the rest of the row as
-- `specs/Written.antt` writes it. To the machine of two strings, and to any machine that does the same within a row. Assumes nothing.
use mathlib.Core.Path.{◌≡◌, refl, sym, ap, ◌∙◌, subst}
use mathlib.Core.Bool.{Bool, true, false}
use mathlib.Core.List.{List, [], ◌∷◌, ◌++◌, append_assoc}
use mathlib.Core.Option.{Option, none, some}
use Prim.Native.Nat.{ℕ, zero, suc, ◌+◌, ◌-◌, ◌*◌, ◌/◌, ◌%◌, ◌^◌, ◌≤◌, ◌<◌}
use native.Mathlib.Omega.{arith}
use lib.Dec.{ltb, eqb}
use lib.ListN.{take, get_or}
use lib.Seq.{take-suc}
use lib.Ieee.{Float, binary64, of_bits}
use borrow.Author.Tests.{ltb-true, ltb-false, lt-ltb, le-ltb, eqb-true}
use Rattle.arcstring_check.specs.Answer.{pick}
use Rattle.textform.specs.declared.inner.read.Part.{Part}
use Rattle.textform.specs.declared.inner.read.Part.TheVariants as P
use Rattle.textform.specs.Text.{blank, line_feed, row_start, names_line, part_at, row_part, float_part, place_after, hex_digit, in_turn}
use Rattle.textform.specs.Text.{State, start, malformed, onward, in_row, if_digit, append, with_float, step_at, step_with}
use Rattle.textform.specs.Text as Text
use Rattle.textform.specs.Written.{hex_glyph, hex_digits, word_text, Row, RowFits, row_rest, row_floats}
use Rattle.textform.proofs.Written.{by_size, next_place, moved, with_floats, digit_step, last_digit_step, FloatAt, first_float, second_float, third_float}
use Rattle.textform.proofs.Written.{after_row, floats_joined}
use Rattle.textform.proofs.inner.read.Digits.{before_digits, at_digit, between, at_letter, past_letters}
use Rattle.textform.proofs.inner.read.Places.{word_next, word_fits}

-- ---- how bytes begin

-- The bytes begin with these, and P holds of the rest.
pub record Begins (bytes first : List ℕ) (P : List ℕ → Type 0) : Type 0 where
  pub rest : List ℕ
  pub is : bytes ≡ first ++ rest
  pub holds : P rest

-- and the rest with others
begins_then : {bytes xs ys zs : List ℕ} {P Q : List ℕ → Type 0} (b : Begins bytes xs P) → Begins b.rest ys Q → xs ++ ys ≡ zs → Begins bytes zs Q
begins_then {bytes} {xs} {ys} {zs} b c e = record {
  rest = c.rest;
  is = b.is ∙ ap (λ (l : List ℕ). xs ++ l) c.is ∙ sym (append_assoc xs ys c.rest) ∙ ap (λ (l : List ℕ). l ++ c.rest) e;
  holds = c.holds;
}

-- with a digit, and P holds of the digit and the rest
record DigitFirst (bytes : List ℕ) (P : ℕ → List ℕ → Type 0) : Type 0 where
  digit : ℕ
  fits : digit < 16
  begins : Begins bytes (hex_glyph digit ∷ []) (P digit)

-- with so many digits
record DigitsFirst (k : ℕ) (bytes : List ℕ) (P : ℕ → List ℕ → Type 0) : Type 0 where
  word : ℕ
  fits : word < 16 ^ k
  begins : Begins bytes (hex_digits k word) (P word)

-- with a word after a blank
record WordFirst (bytes : List ℕ) (P : ℕ → List ℕ → Type 0) : Type 0 where
  word : ℕ
  fits : word < 2 ^ 64
  begins : Begins bytes (word_text word) (P word)

-- with a row after its name
pub record RowFirst (bytes : List ℕ) (P : Row → List ℕ → Type 0) : Type 0 where
  pub row : Row
  pub fits : RowFits row
  pub begins : Begins bytes (row_rest row) (P row)

-- with three words and a line feed
module _ {bytes : List ℕ} {P Q R : ℕ → List ℕ → Type 0} (x : WordFirst bytes P) (y : WordFirst x.begins.rest Q) (z : WordFirst y.begins.rest R) where
  abbrev row_of : Row
  row_of = record { x = x.word; y = y.word; z = z.word }

  whole_row : (T : Row → List ℕ → Type 0) → Begins z.begins.rest (line_feed ∷ []) (T row_of) → RowFirst bytes T
  whole_row T end = record {
    row = row_of;
    fits = record { x = x.fits; y = y.fits; z = z.fits };
    begins = begins_then x.begins (begins_then y.begins (begins_then z.begins end refl) refl) refl;
  }

-- ---- a digit

-- a byte has no value, or it is the byte of its value
data Value (byte : ℕ) : Option ℕ → Type 0 where
  no_value : Value byte none
  value : (d : ℕ) → d < 16 → byte ≡ hex_glyph d → Value byte (some d)

value_of : (byte : ℕ) → Value byte (hex_digit byte)
value_of byte = go (ltb byte 48) (ltb byte 58) (ltb byte 65) (ltb byte 71) refl refl refl refl
  where
    go : (p q r s : Bool) → ltb byte 48 ≡ p → ltb byte 58 ≡ q → ltb byte 65 ≡ r → ltb byte 71 ≡ s → Value byte (hex_digit byte)
    go true q r s e f g k = subst (Value byte) (before_digits byte (ltb-true byte 48 e)) no_value
    go false true r s e f g k =
        let l = ltb-false byte 48 e in
        let m = ltb-true byte 58 f in
        let is : byte ≡ 48 + (byte - 48) = omega arith in
        subst (Value byte) (at_digit byte l m)
        (value (byte - 48) (omega arith) (is ∙ sym (by_size (byte - 48) (lt-ltb (byte - 48) 10 (omega arith)))))
    go false false true s e f g k = subst (Value byte) (between byte (ltb-false byte 58 f) (ltb-true byte 65 g)) no_value
    go false false false true e f g k =
        let l = ltb-false byte 65 g in
        let m = ltb-true byte 71 k in
        let is : byte ≡ 55 + (byte - 65 + 10) = omega arith in
        subst (Value byte) (at_letter byte l m)
        (value (byte - 65 + 10) (omega arith) (is ∙ sym (by_size (byte - 65 + 10) (le-ltb (byte - 65 + 10) 10 (omega arith)))))
    go false false false false e f g k = subst (Value byte) (past_letters byte (ltb-false byte 71 k)) no_value

-- one digit more of a word
one_digit_more_lem : (k w d : ℕ) → d < 16 → hex_digits k w ++ (hex_glyph d ∷ []) ≡ hex_digits (suc k) (16 * w + d)
unfolding hex_digits
one_digit_more_lem k w d digit =
    let front : w ≡ (16 * w + d) / 16 = omega arith in
    let last : d ≡ (16 * w + d) % 16 = omega arith in
    λ i. hex_digits k (front i) ++ (hex_glyph (last i) ∷ [])

-- ---- a byte, by what stands at its place

module _ (s : State) (place word byte : ℕ) where
  -- where a digit may stand, and it is none
  no_digit : part_at place ≡ P.Digit → hex_digit byte ≡ none → Text.step (moved place word s) byte ≡ malformed s
  unfolding step_with
  no_digit here none-there =
      ap (λ (p : Part). step_at append p (moved place word s) byte) here
      ∙ ap (λ (o : Option ℕ). if_digit o (λ (v : ℕ). onward s.second (16 * word + v) (moved place word s)) (malformed s)) none-there

  no_last_digit : part_at place ≡ P.LastDigit → hex_digit byte ≡ none → Text.step (moved place word s) byte ≡ malformed s
  unfolding step_with
  no_last_digit here none-there =
      ap (λ (p : Part). step_at append p (moved place word s) byte) here
      ∙ ap (λ (o : Option ℕ). if_digit o (λ (v : ℕ). with_float append (of_bits binary64 (16 * word + v)) (moved place word s)) (malformed s)) none-there

  -- where one certain byte may stand
  exactly_step : (c : ℕ) {t : Bool} → part_at place ≡ P.Exactly c → eqb byte c ≡ t
      → Text.step (moved place word s) byte ≡ pick t (moved (place_after place) 0 s) (malformed s)
  unfolding step_with
  exactly_step c here e =
      ap (λ (p : Part). step_at append p (moved place word s) byte) here ∙ ap (λ (t : Bool). pick t (moved (place_after place) 0 s) (malformed s)) e

stays_malformed : (s : State) (byte : ℕ) → Text.step (malformed s) byte ≡ malformed s
unfolding step_with part_at
stays_malformed s byte = refl

-- what stands in the names line
name_part : (k : ℕ) → k < row_start → part_at k ≡ P.Exactly (get_or names_line k 0)
unfolding part_at
name_part k h = rw (lt-ltb k row_start h)

-- what stands between the words of a row, and after the third
second_blank : part_at 31 ≡ P.Exactly blank
unfolding part_at row_part float_part
second_blank = refl

third_blank : part_at 48 ≡ P.Exactly blank
unfolding part_at row_part float_part
third_blank = refl

row_end : part_at 65 ≡ P.Exactly line_feed
unfolding part_at row_part float_part
row_end = refl

-- ---- bytes that lead to where the input may end

-- As in `Written`, a machine that does within a row what that of two strings does; and a test of whether the input may end, which fails within a row.
module _ {S : Type 0} (step : S → ℕ → S) (holding : State → S)
    (within_row : (s : State) (byte : ℕ) → (s.place ≡ row_start → ⊥) → step (holding s) byte ≡ holding (Text.step s byte)) (may_end : S → Bool)
    (at_row_start : (s : State) → may_end (holding s) ≡ true → s.place ≡ row_start) where
  -- the bytes lead from there to where the input may end
  abbrev Ends : S → List ℕ → Type 0
  Ends t bytes = may_end (in_turn step t bytes) ≡ true

  next_byte : (s t : State) (byte : ℕ) (bytes : List ℕ) → (s.place ≡ row_start → ⊥) → Text.step s byte ≡ t → Ends (holding s) (byte ∷ bytes)
      → Ends (holding t) bytes
  unfolding in_turn
  next_byte s t byte bytes past e h = subst (λ (q : S). Ends q bytes) (within_row s byte past ∙ ap holding e) h

  not_yet : (s : State) → (s.place ≡ row_start → ⊥) → Ends (holding s) [] → ⊥
  unfolding in_turn
  not_yet s past h = past (at_row_start s h)

  -- what is malformed never does
  pub malformed_never_ends : (s : State) (bytes : List ℕ) → Ends (holding (malformed s)) bytes → ⊥
  malformed_never_ends s [] h = not_yet (malformed s) (λ e. omega arith) h
  malformed_never_ends s (byte ∷ bytes) h =
      malformed_never_ends s bytes (next_byte (malformed s) (malformed s) byte bytes (λ e. omega arith) (stays_malformed s byte) h)

  -- one certain byte
  exactly_peeled : (s : State) (place word c : ℕ) → (place ≡ row_start → ⊥) → part_at place ≡ P.Exactly c → (bytes : List ℕ)
      → Ends (holding (moved place word s)) bytes → Begins bytes (c ∷ []) (Ends (holding (moved (place_after place) 0 s)))
  exactly_peeled s place word c past here [] h = absurd (not_yet (moved place word s) past h)
  exactly_peeled s place word c past here (byte ∷ bytes) h = go (eqb byte c) refl
    where
      go : (t : Bool) → eqb byte c ≡ t → Begins (byte ∷ bytes) (c ∷ []) (Ends (holding (moved (place_after place) 0 s)))
      go true e = record {
        rest = bytes;
        is = ap (λ (b : ℕ). b ∷ bytes) (eqb-true byte c e);
        holds = next_byte (moved place word s) (moved (place_after place) 0 s) byte bytes past (exactly_step s place word byte c here e) h;
      }
      go false e =
          absurd (malformed_never_ends s bytes (next_byte (moved place word s) (malformed s) byte bytes past (exactly_step s place word byte c here e) h))

  -- a digit, where each leads to `next` and no other byte may stand
  digit_peeled : (s : State) (next : ℕ → State) → (s.place ≡ row_start → ⊥)
      → ((byte : ℕ) → hex_digit byte ≡ none → Text.step s byte ≡ malformed s)
      → ((d : ℕ) → d < 16 → Text.step s (hex_glyph d) ≡ next d)
      → (bytes : List ℕ) → Ends (holding s) bytes → DigitFirst bytes (λ (d : ℕ). Ends (holding (next d)))
  digit_peeled s next past other digit [] h = absurd (not_yet s past h)
  digit_peeled s next past other digit (byte ∷ bytes) h = go (hex_digit byte) refl (value_of byte)
    where
      go : (o : Option ℕ) → hex_digit byte ≡ o → Value byte o → DigitFirst (byte ∷ bytes) (λ (d : ℕ). Ends (holding (next d)))
      go none e no_value = absurd (malformed_never_ends s bytes (next_byte s (malformed s) byte bytes past (other byte e) h))
      go (some _) e (value d small is) = record {
        digit = d;
        fits = small;
        begins = record {
          rest = bytes;
          is = ap (λ (b : ℕ). b ∷ bytes) is;
          holds = next_byte s (next d) byte bytes past (ap (Text.step s) is ∙ digit d small) h;
        };
      }

  -- the names line
  pub names_peeled : (bytes : List ℕ) → Ends (holding start) bytes → Begins bytes names_line (Ends (holding (after_row false [] start)))
  names_peeled bytes h = first row_start (omega arith)
    where
      first : (k : ℕ) → k ≤ row_start → Begins bytes (take k names_line) (Ends (holding (moved k 0 start)))
      first zero few = record { rest = bytes; is = refl; holds = h }
      first (suc k) few =
          let before = first k (omega arith) in
          let next : place_after k ≡ suc k = next_place k (omega arith) ∙ omega arith in
          let one = exactly_peeled start k 0 (get_or names_line k 0) (λ e. omega arith) (name_part k (omega arith)) before.rest before.holds in
          subst (λ (p : ℕ). Begins bytes (take (suc k) names_line) (Ends (holding (moved p 0 start)))) next
          (begins_then before one (sym (take-suc names_line k 0 (omega arith))))

  module _ (s : State) (first : ℕ) (here : FloatAt first) where
    one_digit : (k w : ℕ) → k < 15 → (bytes : List ℕ) → Ends (holding (moved (first + k) w s)) bytes
        → DigitFirst bytes (λ (d : ℕ). Ends (holding (moved (first + k + 1) (16 * w + d) s)))
    one_digit k w few =
        let inside = here.inside in
        let past = here.past in
        let part = here.digits k few in
        digit_peeled (moved (first + k) w s) (λ (d : ℕ). moved (first + k + 1) (16 * w + d) s) (λ e. omega arith)
        (λ byte. no_digit s (first + k) w byte part) (λ d small. digit_step s (first + k) w d (omega arith) small part)

    last_digit : (w : ℕ) (bytes : List ℕ) → Ends (holding (moved (first + 15) w s)) bytes
        → DigitFirst bytes (λ (d : ℕ). Ends (holding (moved (first + 15 + 1) 0 (with_floats (of_bits binary64 (16 * w + d) ∷ []) s))))
    last_digit w =
        let past = here.past in
        digit_peeled (moved (first + 15) w s) (λ (d : ℕ). moved (first + 15 + 1) 0 (with_floats (of_bits binary64 (16 * w + d) ∷ []) s)) (λ e. omega arith)
        (λ byte. no_last_digit s (first + 15) w byte here.last) (λ d small. last_digit_step s (first + 15) w d here.inside small here.last)

    digits_peeled : (k : ℕ) → k ≤ 15 → (bytes : List ℕ) → Ends (holding (moved first 0 s)) bytes
        → DigitsFirst k bytes (λ (w : ℕ). Ends (holding (moved (first + k) w s)))
    unfolding hex_digits
    digits_peeled zero few bytes h =
        let same : first ≡ first + 0 = omega arith in
        record {
          word = 0;
          fits = omega arith;
          begins = record { rest = bytes; is = refl; holds = subst (λ (p : ℕ). Ends (holding (moved p 0 s)) bytes) same h };
        }
    digits_peeled (suc k) few bytes h =
        let before = digits_peeled k (omega arith) bytes h in
        let one = one_digit k before.word (omega arith) before.begins.rest before.begins.holds in
        let next : first + k + 1 ≡ first + suc k = omega arith in
        let word = 16 * before.word + one.digit in
        let digits = begins_then before.begins one.begins (one_digit_more_lem k before.word one.digit one.fits) in
        record {
          word = word;
          fits = word_next k before.word one.digit before.fits one.fits;
          begins = subst (λ (p : ℕ). Begins bytes (hex_digits (suc k) word) (Ends (holding (moved p word s)))) next digits;
        }

    -- a word after a blank
    word_peeled : (bytes : List ℕ) → Begins bytes (blank ∷ []) (Ends (holding (moved first 0 s)))
        → WordFirst bytes (λ (w : ℕ). Ends (holding (moved (first + 16) 0 (with_floats (of_bits binary64 w ∷ []) s))))
    word_peeled bytes after-blank =
        let before = digits_peeled 15 (omega arith) after-blank.rest after-blank.holds in
        let one = last_digit before.word before.begins.rest before.begins.holds in
        let next : first + 15 + 1 ≡ first + 16 = omega arith in
        let word = 16 * before.word + one.digit in
        let digits = begins_then before.begins one.begins (one_digit_more_lem 15 before.word one.digit one.fits) in
        record {
          word = word;
          fits = word_fits 15 before.word one.digit before.fits one.fits (omega arith);
          begins = subst (λ (p : ℕ). Begins bytes (word_text word) (Ends (holding (moved p 0 (with_floats (of_bits binary64 word ∷ []) s))))) next
              (begins_then after-blank digits refl);
        }

  -- the line feed after three words
  row_ended : (second : Bool) (x y z : Float) (s : State) (bytes : List ℕ)
      → Ends (holding (moved 65 0 (with_floats (z ∷ []) (with_floats (y ∷ []) (with_floats (x ∷ []) (in_row second s)))))) bytes
      → Begins bytes (line_feed ∷ []) (Ends (holding (after_row second (x ∷ y ∷ z ∷ []) s)))
  unfolding place_after
  row_ended second x y z s bytes h =
      let s3 = with_floats (z ∷ []) (with_floats (y ∷ []) (with_floats (x ∷ []) (in_row second s))) in
      subst (λ (q : State). Begins bytes (line_feed ∷ []) (Ends (holding q))) (floats_joined second x y z s)
      (exactly_peeled s3 65 0 line_feed (λ e. omega arith) row_end bytes h)

  -- the rest of a row, after the blank that led into it
  pub row_peeled : (second : Bool) (s : State) (bytes : List ℕ) → Ends (holding (in_row second s)) bytes
      → RowFirst (blank ∷ bytes) (λ (r : Row). Ends (holding (after_row second (row_floats r) s)))
  unfolding place_after
  row_peeled second s bytes h =
      let x = word_peeled (in_row second s) 15 first_float (blank ∷ bytes) (record { rest = bytes; is = refl; holds = h }) in
      let s1 = with_floats (of_bits binary64 x.word ∷ []) (in_row second s) in
      let y-blank = exactly_peeled s1 31 0 blank (λ e. omega arith) second_blank x.begins.rest x.begins.holds in
      let y = word_peeled s1 32 second_float x.begins.rest y-blank in
      let s2 = with_floats (of_bits binary64 y.word ∷ []) s1 in
      let z-blank = exactly_peeled s2 48 0 blank (λ e. omega arith) third_blank y.begins.rest y.begins.holds in
      let z = word_peeled s2 49 third_float y.begins.rest z-blank in
      let end = row_ended second (of_bits binary64 x.word) (of_bits binary64 y.word) (of_bits binary64 z.word) s z.begins.rest z.begins.holds in
      whole_row x y z (λ (r : Row). Ends (holding (after_row second (row_floats r) s))) end
