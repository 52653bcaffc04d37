-- Every pair of legs in range has the Rust's point, keeps what the Rust keeps, and is of the class that the words of docs/TERMS.md describe. Assumes nothing.
use mathlib.Core.Path.{◌≡◌, refl, sym, ap, subst, ◌∙◌}
use mathlib.Core.Bool.{Bool, true, false, not, ◌&&◌, ◌||◌}
use mathlib.Core.List.{List, [], ◌∷◌, Memᴰ}
use mathlib.Core.Option.{Option, none, some}
use Prim.Native.Nat.{ℕ}
use lib.Dec.{eqb}
use lib.Ieee.{Float, of_bits}
use Rattle.sphericalpoint.specs.declared.SphericalPoint.{SphericalPoint}
use Rattle.sphericalpoint.specs.Vector.{xyz_neg}
use Rattle.ieee754.specs.Value.{is_zero}
use Rattle.ieee754.proofs.Tests.{never}
use Rattle.ieee754.proofs.Comparisons.{eq-zero}
use Rattle.arcstring_check.specs.Answer.{pick}
use Rattle.arcstring_check.specs.Check.{margin_check, no_margin}
use Rattle.arcstring_check.proofs.Answers.{both_passed}
use Rattle.arcstring_pair.specs.declared.pair.Pair.{Pair}
use Rattle.arcstring_pair.specs.declared.pair.Pair.TheVariants.{Clean, End, Grazing, Apart}
use Rattle.arcstring_pair.specs.declared.pair.Outcome.{Outcome}
use Rattle.arcstring_pair.specs.declared.pair.Outcome.TheVariants.{Kept, Dropped, None}
use Rattle.arcstring.specs.Leg.{Leg, leg_check}
use Rattle.arcstring_sides.specs.Sides.{grazes, is_above, is_below, sign_negative, sign_positive, some_side, every_side}
use Rattle.arcstring_pair.specs.Pair.{normal, meeting, side_from, side_to, side_values}
use Rattle.arcstring_pair.specs.Pair.{at_end, kept_or_dropped, grazing_outcome, end_or_clean, class_at, pair_of, Judged, judged, kept_point}
use Rattle.arcstring_pair.specs.Pair.{arcs_crossing}
use Rattle.arcstring_pair.specs.FiniteLaws.{ExactlyOne, only_first, only_second, only_third}
use Rattle.arcstring_pair.specs.PairLaws.{rust_crossing, rust_kept, answers_end, InWords}
use Rattle.arcstring_pair.specs.PairLaws.{PairsInWords, PairCallInWords, ZeroMarginInWords, StringLegsAccepted, JudgedApart}
use Rattle.arcstring_sides.proofs.Signs.{negative_of_other, positive_of_other}
use Rattle.arcstring_sides.proofs.Margins.{at_zero}
use Rattle.arcstring_pair.proofs.MarginLaws.{zero_accepted, not-zero}
use Rattle.arcstring_pair.proofs.Finite.{side_trichotomy}
use Rattle.arcstring_pair.proofs.AcceptedLegs.{accepted_leg-in_range, accepted_legs_in_range, in_range_accepted}

-- ---- the tests of one side value, and of all

-- grazing, above zero, below zero, and the sign bit clear, set: of a number that does not graze, and so is no zero, the bit says the sign
data OneSide : Bool → Bool → Bool → Bool → Bool → Type 0 where
  grazing : {a b p n : Bool} → OneSide true a b p n
  over : OneSide false true false true false
  under : OneSide false false true false true

by_sign : (g z a b p n : Bool) → ExactlyOne z a b → (g ≡ false → z ≡ false) → (z ≡ false → a ≡ p) → (z ≡ false → b ≡ n) → OneSide g a b p n
by_sign true z a b p n one r f h = grazing
by_sign false true false false p n only_first r f h = never (sym (r refl))
by_sign false false true false p n only_second r f h = rw (← f refl, ← h refl) over
by_sign false false false true p n only_third r f h = rw (← f refl, ← h refl) under
by_sign false false false false p n one r f h = elim one [ ]
by_sign false false true true p n one r f h = elim one [ ]
by_sign false true false true p n one r f h = elim one [ ]
by_sign false true true b p n one r f h = elim one [ ]

-- some grazes; all above, all below; some above, some below; all sign bits clear, all set
data AllSides : Bool → Bool → Bool → Bool → Bool → Bool → Bool → Type 0 where
  some_grazing : {a b sa sb p n : Bool} → AllSides true a b sa sb p n
  all_over : AllSides false true false true false true false
  all_under : AllSides false false true false true false true
  both_sides : AllSides false false false true true false false

last_side : {g a b p n : Bool} → OneSide g a b p n → AllSides (g || false) (a && true) (b && true) (a || false) (b || false) (p && true) (n && true)
last_side grazing = some_grazing
last_side over = all_over
last_side under = all_under

next_side : {g a b p n G A B SA SB P N : Bool} → OneSide g a b p n → AllSides G A B SA SB P N
    → AllSides (g || G) (a && A) (b && B) (a || SA) (b || SB) (p && P) (n && N)
next_side grazing r = some_grazing
next_side over some_grazing = some_grazing
next_side over all_over = all_over
next_side over all_under = both_sides
next_side over both_sides = both_sides
next_side under some_grazing = some_grazing
next_side under all_over = both_sides
next_side under all_under = all_under
next_side under both_sides = both_sides

module _ (margin : Float) (accepted : margin_check margin ≡ 0) where
  one_side : (x : Float) → ExactlyOne (is_zero x) (is_above x) (is_below x)
      → OneSide (grazes margin x) (is_above x) (is_below x) (sign_positive x) (sign_negative x)
  unfolding is_above is_below of_bits
  one_side x one = by_sign _ _ _ _ _ _ one (not-zero margin x accepted) (λ z. positive_of_other x (eq-zero x ∙ z)) (λ z. negative_of_other x (eq-zero x ∙ z))

  abbrev TestsOf : List Float → Type 0
  TestsOf s =
      AllSides (some_side (grazes margin) s) (every_side is_above s) (every_side is_below s) (some_side is_above s) (some_side is_below s)
      (every_side sign_positive s) (every_side sign_negative s)

  all_sides : (x : Float) (s : List Float) → ((y : Float) → Memᴰ y (x ∷ s) → ExactlyOne (is_zero y) (is_above y) (is_below y)) → TestsOf (x ∷ s)
  unfolding some_side every_side
  all_sides x [] one = last_side (one_side x (one x (Memᴰ.head refl)))
  all_sides x (y ∷ s) one = next_side (one_side x (one x (Memᴰ.head refl))) (all_sides y s (λ z m. one z (Memᴰ.tail m)))

-- ---- what a pair is judged to be: r is the Rust's point, e whether it is an end, and the other three are the words for the side values

record Told (j : Judged) (r : Option SphericalPoint) (e agree graze differ : Bool) : Type 0 where
  point : j.point ≡ r
  kept : kept_point j ≡ pick e none r
  clean : eqb j.class 1 ≡ not graze && (agree && not e)
  end : eqb j.class 2 ≡ not graze && (agree && e)
  grazing : eqb j.class 3 ≡ graze
  apart : eqb j.class 4 ≡ not graze && differ

-- a grazing pair whose sign bits agree on the point x, and a pair whose signs do
module _ (x : SphericalPoint) (a b : Leg) where
  told_grazing : {agree differ : Bool} → Told (judged (Grazing (kept_or_dropped x a b))) (some x) (at_end x a b) agree true differ
  unfolding kept_or_dropped
  told_grazing {agree} {differ} = go (at_end x a b) refl
    where
      go : (e : Bool) → at_end x a b ≡ e → Told (judged (Grazing (kept_or_dropped x a b))) (some x) e agree true differ
      go true h = rw h record { point = refl; kept = refl; clean = refl; end = refl; grazing = refl; apart = refl }
      go false h = rw h record { point = refl; kept = refl; clean = refl; end = refl; grazing = refl; apart = refl }

  told_agreeing : Told (judged (end_or_clean x a b)) (some x) (at_end x a b) true false false
  unfolding end_or_clean
  told_agreeing = go (at_end x a b) refl
    where
      go : (e : Bool) → at_end x a b ≡ e → Told (judged (end_or_clean x a b)) (some x) e true false false
      go true h = rw h record { point = refl; kept = refl; clean = refl; end = refl; grazing = refl; apart = refl }
      go false h = rw h record { point = refl; kept = refl; clean = refl; end = refl; grazing = refl; apart = refl }

-- t and t negated, of the legs a and b
module _ (a b : Leg) (t u : SphericalPoint) where
  abbrev answer : Bool → Bool → Option SphericalPoint
  answer p n = pick p (some t) (pick n (some u) none)

  abbrev outcome : Bool → Bool → Outcome
  outcome p n = pick p (kept_or_dropped t a b) (pick n (kept_or_dropped u a b) None)

  abbrev pair : Bool → Bool → Bool → Bool → Bool → Pair
  pair g above below p n = pick g (Grazing (outcome p n)) (pick above (end_or_clean t a b) (pick below (end_or_clean u a b) Apart))

  told : {g above below sa sb p n : Bool} → AllSides g above below sa sb p n
      → Told (judged (pair g above below p n)) (answer p n) (answers_end (answer p n) a b) (above || below) g (sa && sb)
  told (some_grazing {p = true}) = told_grazing t a b
  told (some_grazing {p = false} {n = true}) = told_grazing u a b
  told (some_grazing {p = false} {n = false}) = record { point = refl; kept = refl; clean = refl; end = refl; grazing = refl; apart = refl }
  told all_over = told_agreeing t a b
  told all_under = told_agreeing u a b
  told both_sides = record { point = refl; kept = refl; clean = refl; end = refl; grazing = refl; apart = refl }

-- ---- the theorems

pub pairs_in_words : PairsInWords
unfolding pair_of class_at grazing_outcome rust_crossing rust_kept side_values side_from side_to meeting normal
pairs_in_words margin accepted a b h k =
    let one = side_trichotomy a b (accepted_leg-in_range a h) (accepted_leg-in_range b k) in
    let w = told a b (meeting a b) (xyz_neg (meeting a b)) (all_sides margin accepted (side_from a (meeting a b)) _ one) in
    record { rusts_point = w.point; rusts_kept = w.kept; clean_words = w.clean; end_words = w.end; grazing_words = w.grazing; apart_words = w.apart }

-- what grazes at a zero margin is a zero
pub zero_margin_in_words : ZeroMarginInWords
zero_margin_in_words margin zero a b h k =
    subst (λ (graze : Float → Bool). InWords graze a b (judged (pair_of margin a b))) (λ i x. at_zero margin x zero i)
    (pairs_in_words margin (zero_accepted margin zero) a b h k)

pub pair_call_in_words : PairCallInWords
unfolding arcs_crossing
pair_call_in_words a b j e =
    let p = both_passed (leg_check a) (leg_check b) (judged (pair_of no_margin a b)) j e in
    subst (InWords is_zero a b) p.2 (zero_margin_in_words no_margin refl a b p.0 p.1)

pub string-legs_accepted : StringLegsAccepted
string-legs_accepted v closed h l m = in_range_accepted l (accepted_legs_in_range v closed h l m)

-- the pair of a class's number, a point and whether it is kept
abbrev unread : ℕ → Option SphericalPoint → Bool → Pair
unread n none kept = pick (eqb n 3) (Grazing None) Apart
unread n (some p) kept = pick (eqb n 1) (Clean p) (pick (eqb n 2) (End p) (Grazing (pick kept (Kept p) (Dropped p))))

read_back : (p : Pair) → unread (judged p).class (judged p).point (judged p).kept ≡ p
read_back (Clean p) = refl
read_back (End p) = refl
read_back (Grazing (Kept p)) = refl
read_back (Grazing (Dropped p)) = refl
read_back (Grazing None) = refl
read_back Apart = refl

pub judged_apart : JudgedApart
judged_apart p q h = sym (read_back p) ∙ ap (λ (j : Judged). unread j.class j.point j.kept) h ∙ read_back q
