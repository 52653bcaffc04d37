-- A track's number is read where it stands as it is printed, and nowhere else, as `specs/SeasonLaws.antt` has it; and the limit where its letter stands.
-- Assumes nothing.
use mathlib.Core.Path.{◌≡◌, refl, sym, ap, ◌∙◌}
use mathlib.Core.Bool.{Bool, true, false}
use mathlib.Core.List.{List, [], ◌∷◌, ◌++◌, append_assoc, append-nil}
use mathlib.Core.Option.{Option, none, some}
use Prim.Native.Nat.{ℕ, zero, suc, ◌+◌, ◌-◌, ◌*◌, ◌/◌, ◌%◌, ◌^◌, ◌≤◌, ◌<◌}
use native.Mathlib.Nat.{pow-suc}
use native.Mathlib.Omega.{arith}
use lib.Dec.{ltb, eqb}
use borrow.Author.Tests.{lt-ltb, le-ltb, ltb-true, ltb-false, eqb-true, eqb-false}
use Rattle.arcstring_check.specs.Answer.{pick}
use Rattle.textform.specs.Text.{hex_digit}
use Rattle.textform.specs.Print.{most_digits, decimal_within, decimal}
use Rattle.textform.proofs.inner.read.Digits.{before_digits, at_digit, between, at_letter, past_letters}
use Rattle.textform.proofs.inner.print.Decimals.{by_test}
use Rattle.textform_report.specs.Permille.{most_tracks}
use Rattle.textform_season.specs.declared.inner.column.Column.{Column}
use Rattle.textform_season.specs.declared.inner.column.Column.TheVariants as C
use Rattle.textform_season.specs.Season.{letter_l, with_digit, digit_after, column_after, is_empty}
use Rattle.textform_season.specs.Kept.{ColumnSound}
use Rattle.textform_season.specs.SeasonLaws.{column_from, column_of, NumberAsPrinted, NumberOnlyAsPrinted}
use Rattle.textform_season.proofs.inner.column.Digits.{one_digit_more_lem, digit_first, digit_next}

-- ---- the column over the bytes

-- what may not stand there never may, whatever follows
pub none_stays : (bytes : List ℕ) → column_from none bytes ≡ none
unfolding column_from
none_stays [] = refl
none_stays (byte ∷ bytes) = refl

pub none_is_no_column : {c : Column} → none ≡ some c → ⊥
none_is_no_column h = let z : ◌≡◌ {A = ℕ} 0 1 = cc in omega arith

-- bytes read in two pieces
in_pieces : (c : Option Column) (xs ys : List ℕ) → column_from c (xs ++ ys) ≡ column_from (column_from c xs) ys
unfolding column_from
in_pieces c [] ys = refl
in_pieces none (x ∷ xs) ys = sym (none_stays ys)
in_pieces (some c) (x ∷ xs) ys = in_pieces (column_after c x) xs ys

one_byte : (c : Column) (byte : ℕ) → column_from (some c) (byte ∷ []) ≡ column_after c byte
unfolding column_from
one_byte c byte = refl

-- ---- a digit's byte

module _ (d : ℕ) (digit : d < 10) where
  digit_read : hex_digit (48 + d) ≡ some d
  digit_read = let e : 48 + d - 48 ≡ d = omega arith in sym (at_digit (48 + d) (omega arith) (omega arith)) ∙ ap some e

  first_digit : 1 ≤ d → column_after C.Empty (48 + d) ≡ some (C.Number d)
  first_digit h =
      sym (digit_first (48 + d) (λ e. omega arith))
      ∙ ap (digit_after 0) digit_read
      ∙ sym (one_digit_more_lem 0 d d (omega arith) digit (λ e. omega arith) (omega arith))

  next_digit : (n number : ℕ) → number ≡ 10 * n + d → 1 ≤ number → number ≤ most_tracks → column_after (C.Number n) (48 + d) ≡ some (C.Number number)
  next_digit n number is h l =
      sym (digit_next (48 + d) n)
      ∙ ap (digit_after n) digit_read
      ∙ sym (one_digit_more_lem n d number is digit (λ e. omega arith) l)

-- no other byte has a value below 10
digit_byte : (byte d : ℕ) → hex_digit byte ≡ some d → d < 10 → byte ≡ 48 + d
digit_byte byte d h digit = go (ltb byte 48) (ltb byte 58) (ltb byte 65) (ltb byte 71) refl refl refl refl
  where
    nothing : none ≡ hex_digit byte → ⊥
    nothing e = let z : ◌≡◌ {A = ℕ} 0 1 = cc in omega arith

    go : (p q r s : Bool) → ltb byte 48 ≡ p → ltb byte 58 ≡ q → ltb byte 65 ≡ r → ltb byte 71 ≡ s → byte ≡ 48 + d
    go true q r s e f g k = absurd (nothing (before_digits byte (ltb-true byte 48 e)))
    go false true r s e f g k =
        let is = at_digit byte (ltb-false byte 48 e) (ltb-true byte 58 f) in
        let v : byte - 48 ≡ d = cc in
        omega (arith, ltb-false byte 48 e)
    go false false true s e f g k = absurd (nothing (between byte (ltb-false byte 58 f) (ltb-true byte 65 g)))
    go false false false true e f g k =
        let is = at_letter byte (ltb-false byte 65 g) (ltb-true byte 71 k) in
        let v : byte - 65 + 10 ≡ d = cc in
        absurd (omega arith)
    go false false false false e f g k = absurd (nothing (past_letters byte (ltb-false byte 71 k)))

-- ---- the number as it is printed

printed-within : (most n : ℕ) → 1 ≤ n → n ≤ most_tracks → n < 10 ^ most → column_of (decimal_within most n) ≡ some (C.Number n)
printed-within zero n h l few = absurd (omega arith)
printed-within (suc most) n h l few = go (ltb n 10) refl (printed-within most (n / 10))
  where
    go : (t : Bool) → ltb n 10 ≡ t
        → (1 ≤ n / 10 → n / 10 ≤ most_tracks → n / 10 < 10 ^ most → column_of (decimal_within most (n / 10)) ≡ some (C.Number (n / 10)))
        → column_of (decimal_within (suc most) n) ≡ some (C.Number n)
    go true e front = ap column_of (sym (by_test most n e)) ∙ one_byte C.Empty (48 + n) ∙ first_digit n (ltb-true n 10 e) h
    go false e front =
        let p = pow-suc 10 most in
        let m = ltb-false n 10 e in
        ap column_of (sym (by_test most n e))
        ∙ in_pieces (some C.Empty) (decimal_within most (n / 10)) ((48 + n % 10) ∷ [])
        ∙ ap (λ (c : Option Column). column_from c ((48 + n % 10) ∷ [])) (front (omega arith) (omega arith) (omega arith))
        ∙ one_byte (C.Number (n / 10)) (48 + n % 10)
        ∙ next_digit (n % 10) (omega arith) (n / 10) n (omega arith) h l

pub number_as_printed : NumberAsPrinted
unfolding decimal
number_as_printed n h l = printed-within most_digits n h l (omega arith)

-- ---- and no other bytes

-- where there is room for all digits, more room changes nothing
enough : (most n : ℕ) → 1 ≤ n → n < 10 ^ most → decimal_within (suc most) n ≡ decimal_within most n
enough zero n h few = absurd (omega arith)
enough (suc most) n h few = go (ltb n 10) refl (enough most (n / 10))
  where
    go : (t : Bool) → ltb n 10 ≡ t → (1 ≤ n / 10 → n / 10 < 10 ^ most → decimal_within (suc most) (n / 10) ≡ decimal_within most (n / 10))
        → decimal_within (suc (suc most)) n ≡ decimal_within (suc most) n
    go true e front = sym (by_test (suc most) n e) ∙ by_test most n e
    go false e front =
        let p = pow-suc 10 most in
        let m = ltb-false n 10 e in
        sym (by_test (suc most) n e)
        ∙ ap (λ (digits : List ℕ). digits ++ ((48 + n % 10) ∷ [])) (front (omega arith) (omega arith))
        ∙ by_test most n e

-- the text of a number with one digit more, which 20 places have room for
module _ (d : ℕ) (digit : d < 10) where
  decimal_digit : decimal (10 * 0 + d) ≡ (48 + d) ∷ []
  unfolding decimal
  decimal_digit = let is : 10 * 0 + d ≡ d = omega arith in ap decimal is ∙ sym (by_test 19 d (lt-ltb d 10 digit))

  decimal_more : (m : ℕ) → 1 ≤ m → m ≤ most_tracks → decimal (10 * m + d) ≡ decimal m ++ ((48 + d) ∷ [])
  unfolding decimal
  decimal_more m h l =
      let front : (10 * m + d) / 10 ≡ m = omega arith in
      let last : (10 * m + d) % 10 ≡ d = omega arith in
      sym (by_test 19 (10 * m + d) (le-ltb (10 * m + d) 10 (omega arith)))
      ∙ (λ i. decimal_within 19 (front i) ++ ((48 + last i) ∷ []))
      ∙ ap (λ (x : List ℕ). x ++ ((48 + d) ∷ [])) (sym (enough 19 m h (omega arith)))

-- what stands there after a byte in the place of a digit: nothing that may, or a number with one digit more
data NextDigit (m byte : ℕ) : Option Column → Type 0 where
  no_number : NextDigit m byte none
  number : (d : ℕ) → byte ≡ 48 + d → d < 10 → 1 ≤ 10 * m + d → 10 * m + d ≤ most_tracks → NextDigit m byte (some (C.Number (10 * m + d)))

module _ (m byte : ℕ) where
  by_digit : (d : ℕ) → hex_digit byte ≡ some d → NextDigit m byte (with_digit m d)
  unfolding with_digit
  by_digit d h = go (ltb d 10) (eqb (10 * m + d) 0) (ltb most_tracks (10 * m + d)) refl refl refl
    where
      go : (p q r : Bool) → ltb d 10 ≡ p → eqb (10 * m + d) 0 ≡ q → ltb most_tracks (10 * m + d) ≡ r
          → NextDigit m byte (pick p (pick q none (pick r none (some (C.Number (10 * m + d))))) none)
      go false q r e f g = no_number
      go true true r e f g = no_number
      go true false true e f g = no_number
      go true false false e f g =
          let digit = ltb-true d 10 e in
          let Some-number = eqb-false (10 * m + d) 0 f in
          number d (digit_byte byte d h digit) digit (omega arith) (ltb-false most_tracks (10 * m + d) g)

  by_value : (o : Option ℕ) → hex_digit byte ≡ o → NextDigit m byte (digit_after m o)
  by_value none h = no_number
  by_value (some d) h = by_digit d h

  next : NextDigit m byte (digit_after m (hex_digit byte))
  next = by_value (hex_digit byte) refl

-- what may stand in the first column is within bounds, byte by byte
abbrev pub SoundOption : Option Column → Type 0
SoundOption none = Unit
SoundOption (some c) = ColumnSound c

next_sound : (m byte : ℕ) (c : Option Column) → NextDigit m byte c → SoundOption c
next_sound m byte none no_number = tt
next_sound m byte (some _) (number d is digit Some-number l) = (Some-number, l)

pub column_sound : (c : Column) (byte : ℕ) → SoundOption (column_after c byte)
unfolding column_after
column_sound C.Empty byte = by_letter (eqb byte letter_l)
  where
    by_letter : (t : Bool) → SoundOption (pick t (some C.Limit) (digit_after 0 (hex_digit byte)))
    by_letter true = tt
    by_letter false = next_sound 0 byte (digit_after 0 (hex_digit byte)) (next 0 byte)
column_sound C.Limit byte = tt
column_sound (C.Number n) byte = next_sound n byte (digit_after n (hex_digit byte)) (next n byte)

-- and after a byte it is not empty
abbrev pub FilledOption : Option Column → Type 0
FilledOption none = Unit
FilledOption (some c) = is_empty c ≡ false

next_filled : (m byte : ℕ) (c : Option Column) → NextDigit m byte c → FilledOption c
next_filled m byte none no_number = tt
next_filled m byte (some _) (number d is digit Some-number l) = refl

pub column_filled : (c : Column) (byte : ℕ) → FilledOption (column_after c byte)
unfolding column_after
column_filled C.Empty byte = by_letter (eqb byte letter_l)
  where
    by_letter : (t : Bool) → FilledOption (pick t (some C.Limit) (digit_after 0 (hex_digit byte)))
    by_letter true = refl
    by_letter false = next_filled 0 byte (digit_after 0 (hex_digit byte)) (next 0 byte)
column_filled C.Limit byte = tt
column_filled (C.Number n) byte = next_filled n byte (digit_after n (hex_digit byte)) (next n byte)

-- the bytes are the text of a number that a track may have
abbrev TextOf : List ℕ → ℕ → Type 0
TextOf bytes n = (bytes ≡ decimal n) × (1 ≤ n) × (n ≤ most_tracks)

-- A byte in the place of a digit, and the bytes after it: `front` is the text of the number before, and that of the bytes after a number is known.
after_digit : (m byte : ℕ) (front bytes : List ℕ) (n : ℕ)
    → ((d : ℕ) → d < 10 → decimal (10 * m + d) ≡ front ++ ((48 + d) ∷ []))
    → ((k : ℕ) → 1 ≤ k → k ≤ most_tracks → column_from (some (C.Number k)) bytes ≡ some (C.Number n) → TextOf (decimal k ++ bytes) n)
    → (c : Option Column) → NextDigit m byte c → column_from c bytes ≡ some (C.Number n) → TextOf (front ++ (byte ∷ bytes)) n
after_digit m byte front bytes n one_more_lem rest none no_number h = absurd (none_is_no_column (sym (none_stays bytes) ∙ h))
after_digit m byte front bytes n one_more_lem rest (some _) (number d is digit Some-number l) h =
    let text = rest (10 * m + d) Some-number l h in (
      ap (λ (b : ℕ). front ++ (b ∷ bytes)) is
          ∙ sym (append_assoc front ((48 + d) ∷ []) bytes)
          ∙ ap (λ (x : List ℕ). x ++ bytes) (sym (one_more_lem d digit))
          ∙ text.0,
      text.1,
      text.2,
    )

-- the bytes after a number
after_number : (bytes : List ℕ) (n m : ℕ) → 1 ≤ m → m ≤ most_tracks → column_from (some (C.Number m)) bytes ≡ some (C.Number n) → TextOf (decimal m ++ bytes) n
unfolding column_from
after_number [] n m h l e =
    let is : m ≡ n = cc in
    (append-nil (decimal m) ∙ ap decimal is, omega arith, omega arith)
after_number (byte ∷ bytes) n m h l e =
    after_digit m byte (decimal m) bytes n (λ d digit. decimal_more d digit m h l) (after_number bytes n) (digit_after m (hex_digit byte)) (next m byte)
    (ap (λ (c : Option Column). column_from c bytes) (digit_next byte m) ∙ e)

-- after the limit's letter comes no number
after_letter : (bytes : List ℕ) (n : ℕ) → column_from (some C.Limit) bytes ≡ some (C.Number n) → ⊥
unfolding column_from column_after
after_letter [] n e = let z : ◌≡◌ {A = ℕ} 0 1 = cc in omega arith
after_letter (byte ∷ bytes) n e = none_is_no_column (sym (none_stays bytes) ∙ e)

pub number_only_as_printed : NumberOnlyAsPrinted
unfolding column_from column_after
number_only_as_printed [] n e = let z : ◌≡◌ {A = ℕ} 0 1 = cc in absurd (omega arith)
number_only_as_printed (byte ∷ bytes) n e = go (eqb byte letter_l) e
  where
    go : (t : Bool) → column_from (pick t (some C.Limit) (digit_after 0 (hex_digit byte))) bytes ≡ some (C.Number n) → TextOf (byte ∷ bytes) n
    go true h = absurd (after_letter bytes n h)
    go false h =
        after_digit 0 byte [] bytes n (λ d digit. decimal_digit d digit) (after_number bytes n) (digit_after 0 (hex_digit byte)) (next 0 byte) h

-- ---- the limit's letter

-- after a digit comes no letter, if none comes after a number
digit_no_letter : (m byte : ℕ) (bytes : List ℕ) → ((k : ℕ) → column_from (some (C.Number k)) bytes ≡ some C.Limit → ⊥)
    → (c : Option Column) → NextDigit m byte c → column_from c bytes ≡ some C.Limit → ⊥
digit_no_letter m byte bytes rest none no_number h = none_is_no_column (sym (none_stays bytes) ∙ h)
digit_no_letter m byte bytes rest (some _) (number d is digit Some-number l) h = rest (10 * m + d) h

number_no_letter : (bytes : List ℕ) (m : ℕ) → column_from (some (C.Number m)) bytes ≡ some C.Limit → ⊥
unfolding column_from column_after
number_no_letter [] m e = let z : ◌≡◌ {A = ℕ} 0 1 = cc in omega arith
number_no_letter (byte ∷ bytes) m e = digit_no_letter m byte bytes (number_no_letter bytes) (digit_after m (hex_digit byte)) (next m byte) e

-- no other bytes than the letter are read as the limit's
pub limit_only_as_letter : (bytes : List ℕ) → column_of bytes ≡ some C.Limit → bytes ≡ letter_l ∷ []
unfolding column_from column_after
limit_only_as_letter [] e = let z : ◌≡◌ {A = ℕ} 0 1 = cc in absurd (omega arith)
limit_only_as_letter (byte ∷ bytes) e = go (eqb byte letter_l) refl e
  where
    alone : (bytes : List ℕ) → column_from (some C.Limit) bytes ≡ some C.Limit → bytes ≡ []
    alone [] h = refl
    alone (b ∷ bs) h = absurd (none_is_no_column (sym (none_stays bs) ∙ h))

    go : (t : Bool) → eqb byte letter_l ≡ t → column_from (pick t (some C.Limit) (digit_after 0 (hex_digit byte))) bytes ≡ some C.Limit
        → byte ∷ bytes ≡ letter_l ∷ []
    go true f h = λ i. eqb-true byte letter_l f i ∷ alone bytes h i
    go false f h = absurd (digit_no_letter 0 byte bytes (number_no_letter bytes) (digit_after 0 (hex_digit byte)) (next 0 byte) h)
