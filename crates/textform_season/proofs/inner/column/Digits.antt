-- One digit more of a track's number, whichever way the tests go; and that what stands in the first column is within bounds. Assumes nothing.
use mathlib.Core.Path.{◌≡◌, refl, sym, ap, ◌∙◌}
use mathlib.Core.Bool.{Bool}
use mathlib.Core.Option.{Option, none, some}
use Prim.Native.Nat.{ℕ, ◌+◌, ◌*◌, ◌≤◌, ◌<◌}
use lib.Dec.{ltb, eqb}
use borrow.Author.Tests.{lt-ltb, le-ltb, eq-eqb, ne_eqb}
use Rattle.arcstring_check.specs.Answer.{pick}
use Rattle.textform.specs.Text.{hex_digit}
use Rattle.textform_report.specs.Permille.{most_tracks}
use Rattle.textform_season.specs.declared.inner.column.Column.{Column}
use Rattle.textform_season.specs.declared.inner.column.Column.TheVariants as C
use Rattle.textform_season.specs.Season.{letter_l, with_digit, digit_after, column_after}

module _ (n d : ℕ) where
  by_tests_lem : {p q r : Bool} → ltb d 10 ≡ p → eqb (10 * n + d) 0 ≡ q → ltb most_tracks (10 * n + d) ≡ r
      → pick p (pick q none (pick r none (some (C.Number (10 * n + d))))) none ≡ with_digit n d
  unfolding with_digit
  by_tests_lem a b c = sym (λ i. pick (a i) (pick (b i) none (pick (c i) none (some (C.Number (10 * n + d))))) none)

  pub no_digit : 10 ≤ d → none ≡ with_digit n d
  no_digit h = by_tests_lem (le-ltb d 10 h) refl refl

  module _ (number : ℕ) (is : number ≡ 10 * n + d) (digit : d < 10) where
    pub leading_zero : number ≡ 0 → none ≡ with_digit n d
    leading_zero h = by_tests_lem (lt-ltb d 10 digit) (eq-eqb (10 * n + d) 0 (sym is ∙ h)) refl

    module _ (Some-number : number ≡ 0 → ⊥) where
      pub too_large : most_tracks < number → none ≡ with_digit n d
      too_large h = by_tests_lem (lt-ltb d 10 digit) (ne_eqb (10 * n + d) 0 (λ e. Some-number (is ∙ e))) (ap (ltb most_tracks) (sym is)
          ∙ lt-ltb most_tracks number h)

      pub one_digit_more_lem : number ≤ most_tracks → some (C.Number number) ≡ with_digit n d
      one_digit_more_lem h =
          ap (λ (k : ℕ). some (C.Number k)) is
          ∙ by_tests_lem (lt-ltb d 10 digit) (ne_eqb (10 * n + d) 0 (λ e. Some-number (is ∙ e))) (ap (ltb most_tracks) (sym is) ∙ le-ltb most_tracks number h)

module _ (byte : ℕ) where
  -- by what is found in the first column
  pub found : (column it : Column) (next : Option Column) → column ≡ it → next ≡ column_after it byte → next ≡ column_after column byte
  found column it next e h = h ∙ sym (ap (λ (x : Column). column_after x byte) e)

  first_byte : {t : Bool} → eqb byte letter_l ≡ t → pick t (some C.Limit) (digit_after 0 (hex_digit byte)) ≡ column_after C.Empty byte
  unfolding column_after
  first_byte e = sym (ap (λ (t : Bool). pick t (some C.Limit) (digit_after 0 (hex_digit byte))) e)

  pub letter_first : byte ≡ letter_l → some C.Limit ≡ column_after C.Empty byte
  letter_first h = first_byte (eq-eqb byte letter_l h)

  pub digit_first : (byte ≡ letter_l → ⊥) → digit_after 0 (hex_digit byte) ≡ column_after C.Empty byte
  digit_first h = first_byte (ne_eqb byte letter_l h)

  pub none_after_letter : none ≡ column_after C.Limit byte
  unfolding column_after
  none_after_letter = refl

  pub digit_next : (n : ℕ) → digit_after n (hex_digit byte) ≡ column_after (C.Number n) byte
  unfolding column_after
  digit_next n = refl
