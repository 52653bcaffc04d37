-- A whole float, and one byte: the reader that the code makes holds what the machine over bytes says, and stays within its bounds. Assumes nothing.
use mathlib.Core.Path.{◌≡◌, sym, ap, ◌∙◌, subst}
use mathlib.Core.Bool.{Bool, true, false}
use mathlib.Core.List.{List}
use mathlib.Core.Option.{some}
use Prim.Native.Nat.{ℕ, ◌+◌, ◌*◌, ◌^◌, ◌≤◌, ◌<◌}
use native.Mathlib.Omega.{arith}
use lib.ListN.{take}
use lib.Ieee.{Float}
use Rattle.arcstring_check.specs.Answer.{pick}
use Rattle.textform.specs.declared.inner.read.Part.{Part}
use Rattle.textform.specs.declared.inner.read.Part.TheVariants as P
use Rattle.textform.specs.declared.inner.reader.Reader.{Reader}
use Rattle.textform.specs.Text.{row_last, malformed_place, State, part_at, place_after, hex_digit, onward, with_float, step_at, step_with}
use Rattle.textform.specs.Kept.{floats_kept, keep, digits_before, Sound}
use Rattle.textform.specs.Held.{held_state}
use Rattle.textform.proofs.inner.read.Digits.{digit_small}
use Rattle.textform.proofs.inner.read.Places.{rule_at, after_within, digits_few, some_power, word_next, word_fits}

-- ---- a whole float

-- at the next place no digit is read yet
pub next_sound : (r : Reader) (place a b : ℕ) → r.place ≤ row_last → place ≡ place_after r.place → a ≤ floats_kept → b ≤ floats_kept → Sound place 0 a b
next_sound r place a b within after few few' = record {
  place_within = subst (λ (p : ℕ). p ≤ malformed_place) (sym after) (after_within r.place within);
  word_fits = some_power (digits_before place);
  a_fits = few;
  b_fits = few';
}

module _ (r : Reader) (x : Float) (place n : ℕ) (a b : List Float) (after : place ≡ place_after r.place) where
  -- kept for B, whose list is b' then
  pub second_kept : (b' : List Float) → r.second ≡ true → take n b' ≡ keep x (take r.b b)
      → record { place = place; second = r.second; word = 0; a = take r.a a; b = take n b' } ≡ with_float keep x (held_state r a b)
  second_kept b' h k = λ i. record {
    place = after i;
    second = r.second;
    word = 0;
    a = pick (sym h i) (take r.a a) (keep x (take r.a a));
    b = pick (sym h i) (k i) (take r.b b);
  }

  -- for A, whose list is a' then
  pub first_kept : (a' : List Float) → r.second ≡ false → take n a' ≡ keep x (take r.a a)
      → record { place = place; second = r.second; word = 0; a = take n a'; b = take r.b b } ≡ with_float keep x (held_state r a b)
  first_kept a' h k = λ i. record {
    place = after i;
    second = r.second;
    word = 0;
    a = pick (sym h i) (take r.a a) (k i);
    b = pick (sym h i) (keep x (take r.b b)) (take r.b b);
  }

-- ---- a byte

-- on to the next place, with these digits
pub onward_sound : (r : Reader) (place word : ℕ) → r.place ≤ row_last → word < 16 ^ digits_before (place_after r.place) → place ≡ place_after r.place
    → Sound place word r.a r.b
onward_sound r place word l w e = record {
  place_within = subst (λ (p : ℕ). p ≤ malformed_place) (sym e) (after_within r.place l);
  word_fits = subst (λ (p : ℕ). word < 16 ^ digits_before p) (sym e) w;
  a_fits = r.sound.a_fits;
  b_fits = r.sound.b_fits;
}

pub onward_held : (r : Reader) (place : ℕ) (second : Bool) (word : ℕ) → place ≡ place_after r.place
    → (a b : List Float) → record { place = place; second = second; word = word; a = take r.a a; b = take r.b b } ≡ onward second word (held_state r a b)
onward_held r place second word e a b = λ i. record { place = e i; second = second; word = word; a = take r.a a; b = take r.b b }

-- the digits so far, and one more of them, w as the code has it
module _ (r : Reader) where
  pub digits_fit : 16 * r.word < 2 ^ 64
  digits_fit = let l = word_fits (digits_before r.place) r.word 0 r.sound.word_fits (omega arith) (digits_few r.place) in omega arith

  module _ (byte d w : ℕ) (digit : hex_digit byte ≡ some d) (same : w ≡ d) where
    small : w < 16
    small = subst (λ (x : ℕ). x < 16) (sym same) (digit_small byte d digit)

    pub digit_fits : 16 * r.word + w < 2 ^ 64
    digit_fits = word_fits (digits_before r.place) r.word w r.sound.word_fits small (digits_few r.place)

    pub digit_next : part_at r.place ≡ P.Digit → 16 * r.word + w < 16 ^ digits_before (place_after r.place)
    digit_next here =
        subst (λ (n : ℕ). 16 * r.word + w < 16 ^ n) (sym (rule_at r.place P.Digit here).1)
        (word_next (digits_before r.place) r.word w r.sound.word_fits small)

-- what a byte does is what the part at the place says
pub stepped : (byte : ℕ) (part : Part) (s held : State) → part_at s.place ≡ part → held ≡ step_at keep part s byte → held ≡ step_with keep s byte
unfolding step_with
stepped byte part s held here h = h ∙ sym (ap (λ (p : Part). step_at keep p s byte) here)
