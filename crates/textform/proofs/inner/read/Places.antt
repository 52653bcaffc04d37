-- What stands at each place of the input, how many digits of a float and how many floats of a row stand before it, by one test that is computed at each
-- place; and that the digits so far fit 64 bits. Assumes nothing.
use mathlib.Core.Path.{◌≡◌, refl, sym, subst}
use mathlib.Core.Bool.{Bool, true, false, ◌&&◌}
use mathlib.Core.Logic.{inl, inr}
use Prim.Native.Nat.{ℕ, zero, suc, ◌+◌, ◌-◌, ◌*◌, ◌/◌, ◌%◌, ◌^◌, ◌≤◌, ◌<◌}
use native.Mathlib.Nat.{pow-suc, pow-le-pow_right, lt_of_lt_of_le, le_of_suc-le-suc, not-suc-le-zero, eq-or-lt_of_le}
use native.Mathlib.Omega.{arith}
use lib.Dec.{T, ltb, leb, eqb, lit<, leb→le, eqb→eq}
use lib.Ieee.Fits.{and_l, and_r}
use borrow.Author.Tests.{ltb-true, ltb-false, le-ltb}
use Rattle.arcstring_check.specs.Answer.{pick}
use Rattle.textform.specs.declared.inner.read.Part.{Part}
use Rattle.textform.specs.declared.inner.read.Part.TheVariants as P
use Rattle.textform.specs.Text.{row_start, row_last, malformed_place, float_bytes, float_part, row_part, part_at, place_after}
use Rattle.textform.specs.Kept.{digits_before}

-- ---- what is so at each place

-- how many whole floats of its row stand before a place
unfoldable pub floats_before : ℕ → ℕ
floats_before place = (place - (row_start + 1)) / float_bytes

-- a place before the end of a row, after which there are as many floats, over whole rows
pub record Within (place : ℕ) : Type 0 where
  pub in-row : place ≤ row_last
  pub same-floats : floats_before (place_after place) % 3 ≡ floats_before place % 3

-- by the part that stands there
abbrev pub Rule : ℕ → Part → Type 0
Rule place (P.Exactly c) = Within place
Rule place P.Name = Within place × (place ≡ row_start)
Rule place P.Digit = Within place × (digits_before (place_after place) ≡ suc (digits_before place))
Rule place P.LastDigit = (place ≤ row_last) × (floats_before (place_after place) ≡ floats_before place + 1)
Rule place P.Nothing = Unit

-- the same, as a test
module _ (place : ℕ) where
  abbrev in_row : Bool
  in_row = leb place row_last

  abbrev same_floats : Bool
  same_floats = eqb (floats_before (place_after place) % 3) (floats_before place % 3)

  abbrev one_float_more : Bool
  one_float_more = eqb (floats_before (place_after place)) (floats_before place + 1)

  abbrev one_digit_more : Bool
  one_digit_more = eqb (digits_before (place_after place)) (suc (digits_before place))

  abbrev within : Bool
  within = in_row && same_floats

  abbrev rule : Part → Bool
  rule (P.Exactly c) = within
  rule P.Name = within && eqb place row_start
  rule P.Digit = within && one_digit_more
  rule P.LastDigit = in_row && one_float_more
  rule P.Nothing = true

  in-row : T in_row → place ≤ row_last
  in-row = leb→le place row_last

  is_within : T within → Within place
  is_within t = record { in-row = in-row (and_l in_row same_floats t); same-floats = eqb→eq _ _ (and_r in_row same_floats t) }

  is_so : (part : Part) → T (rule part) → Rule place part
  is_so (P.Exactly c) t = is_within t
  is_so P.Name t = (is_within (and_l within (eqb place row_start) t), eqb→eq place row_start (and_r within (eqb place row_start) t))
  is_so P.Digit t = (is_within (and_l within one_digit_more t), eqb→eq _ _ (and_r within one_digit_more t))
  is_so P.LastDigit t = (in-row (and_l in_row one_float_more t), eqb→eq _ _ (and_r in_row one_float_more t))
  is_so P.Nothing t = tt

-- a test of every number below n, and of one of them
abbrev pub all_below : (ℕ → Bool) → ℕ → Bool
all_below f zero = true
all_below f (suc n) = f n && all_below f n

pub at : (f : ℕ → Bool) (n : ℕ) → T (all_below f n) → (i : ℕ) → i < n → T (f i)
at f zero t i h = absurd (not-suc-le-zero h)
at f (suc n) t i h = elim (eq-or-lt_of_le (le_of_suc-le-suc h)) [
  | inl e ↦ rw e (and_l (f n) (all_below f n) t)
  | inr l ↦ at f n (and_r (f n) (all_below f n) t) i l
]

-- the test, computed at each place
computed : T (all_below (λ (k : ℕ). rule k (part_at k)) malformed_place)
unfolding part_at row_part float_part place_after digits_before floats_before
computed = tt

pub rule_at : (place : ℕ) (part : Part) → part_at place ≡ part → Rule place part
unfolding part_at
rule_at place part here = subst (Rule place) here (by_test (ltb place malformed_place) refl)
  where
    by_test : (t : Bool) → ltb place malformed_place ≡ t → Rule place (part_at place)
    by_test true e = is_so place (part_at place) (at (λ (k : ℕ). rule k (part_at k)) malformed_place computed place (ltb-true place malformed_place e))
    by_test false e =
        let l = ltb-false place malformed_place e in
        let first : ltb place row_start ≡ false = le-ltb place row_start (omega arith) in
        let nothing : part_at place ≡ P.Nothing = simp (first, e) in
        subst (Rule place) (sym nothing) tt

-- ---- the next place, and the digits before one

pub after_within : (place : ℕ) → place ≤ row_last → place_after place ≤ malformed_place
unfolding place_after
after_within place h = by_test (eqb place row_last)
  where
    by_test : (t : Bool) → pick t row_start (place + 1) ≤ malformed_place
    by_test true = omega arith
    by_test false = omega arith

pub digits_few : (place : ℕ) → digits_before place ≤ 15
unfolding digits_before
digits_few place = omega arith

-- ---- the word

pub some_power : (n : ℕ) → 0 < 16 ^ n
some_power n = pow-le-pow_right (lit< {m = 0} {n = 16} tt) {i = 0} {j = n} (omega arith)

module _ (n word d : ℕ) (before : word < 16 ^ n) (digit : d < 16) where
  pub word_next : 16 * word + d < 16 ^ suc n
  word_next = rw pow-suc (go (16 ^ n) before)
    where
      go : (v : ℕ) → word < v → 16 * word + d < v * 16
      go v h = omega arith

  pub word_fits : n ≤ 15 → 16 * word + d < 2 ^ 64
  word_fits h = lt_of_lt_of_le word_next (pow-le-pow_right (lit< {m = 0} {n = 16} tt) {i = suc n} {j = 16} (omega arith))
