-- The value of a hexadecimal digit, by where its byte stands. Assumes nothing.
use mathlib.Core.Path.{◌≡◌, refl, sym, ap, ◌∙◌}
use mathlib.Core.Bool.{Bool, true, false}
use mathlib.Core.Option.{none, some}
use Prim.Native.Nat.{ℕ, ◌+◌, ◌-◌, ◌≤◌, ◌<◌}
use native.Mathlib.Omega.{arith}
use lib.Dec.{ltb, leb}
use borrow.Author.Tests.{lt-ltb, le-ltb, le-leb, lt-leb, ltb-true}
use Rattle.arcstring_check.specs.Answer.{pick}
use Rattle.textform.specs.Text.{hex_digit}

module _ (byte : ℕ) where
  by_tests_lem : {p q r s : Bool} → leb 48 byte ≡ p → ltb byte 58 ≡ q → leb 65 byte ≡ r → ltb byte 71 ≡ s
      → pick p (pick q (some (byte - 48)) (pick r (pick s (some (byte - 55)) none) none)) none ≡ hex_digit byte
  unfolding hex_digit
  by_tests_lem a b c d = sym (λ i. pick (a i) (pick (b i) (some (byte - 48)) (pick (c i) (pick (d i) (some (byte - 55)) none) none)) none)

  pub before_digits : byte < 48 → none ≡ hex_digit byte
  before_digits h = by_tests_lem (lt-leb 48 byte h) refl refl refl

  pub at_digit : 48 ≤ byte → byte < 58 → some (byte - 48) ≡ hex_digit byte
  at_digit h l = by_tests_lem (le-leb 48 byte h) (lt-ltb byte 58 l) refl refl

  pub between : 58 ≤ byte → byte < 65 → none ≡ hex_digit byte
  between h l = by_tests_lem (le-leb 48 byte (omega arith)) (le-ltb byte 58 h) (lt-leb 65 byte l) refl

  pub at_letter : 65 ≤ byte → byte < 71 → some (byte - 65 + 10) ≡ hex_digit byte
  at_letter h l =
      let e : byte - 65 + 10 ≡ byte - 55 = omega arith in
      ap some e ∙ by_tests_lem (le-leb 48 byte (omega arith)) (le-ltb byte 58 (omega arith)) (le-leb 65 byte h) (lt-ltb byte 71 l)

  pub past_letters : 71 ≤ byte → none ≡ hex_digit byte
  past_letters h = by_tests_lem (le-leb 48 byte (omega arith)) (le-ltb byte 58 (omega arith)) (le-leb 65 byte (omega arith)) (le-ltb byte 71 h)

  none_is_no_digit : {d : ℕ} → none ≡ some d → ⊥
  none_is_no_digit h = let z : ◌≡◌ {A = ℕ} 0 1 = cc in omega arith

  -- a digit's value is below 16
  pub digit_small : (d : ℕ) → hex_digit byte ≡ some d → d < 16
  unfolding hex_digit
  digit_small d = go (leb 48 byte) (ltb byte 58) (leb 65 byte) (ltb byte 71) refl refl
    where
      go : (p q r s : Bool) → ltb byte 58 ≡ q → ltb byte 71 ≡ s
          → pick p (pick q (some (byte - 48)) (pick r (pick s (some (byte - 55)) none) none)) none ≡ some d → d < 16
      go true true r s l m h = let e : byte - 48 ≡ d = cc in omega (arith, ltb-true byte 58 l)
      go true false true true l m h = let e : byte - 55 ≡ d = cc in omega (arith, ltb-true byte 71 m)
      go true false true false l m h = absurd (none_is_no_digit h)
      go true false false s l m h = absurd (none_is_no_digit h)
      go false q r s l m h = absurd (none_is_no_digit h)
