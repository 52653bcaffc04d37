-- Where the input read is well formed, the floats of each string are whole triples: at each place of a row its string has as many floats over whole triples
-- as stand in the row before it. Assumes nothing.
use mathlib.Core.Path.{◌≡◌, refl, sym, ap, ◌∙◌}
use mathlib.Core.Bool.{Bool, true, false}
use mathlib.Core.List.{List, [], ◌∷◌, ◌++◌}
use mathlib.Core.Option.{Option, none, some}
use Prim.Native.Nat.{ℕ, ◌+◌, ◌*◌, ◌%◌, ◌≤◌}
use native.Mathlib.Omega.{arith}
use lib.Dec.{eqb}
use lib.ListN.{length, length-append}
use lib.Ieee.{Float, binary64, of_bits}
use borrow.Author.Tests.{eqb-true}
use Rattle.arcstring_check.specs.Answer.{pick}
use Rattle.textform.specs.Text.{in_turn}
use Rattle.textform.specs.declared.inner.read.Part.{Part}
use Rattle.textform.specs.declared.inner.read.Part.TheVariants as P
use Rattle.textform.specs.Text.{letter_a, letter_b, row_start, row_last, State, start, part_at, place_after, hex_digit, malformed, onward, in_row, if_digit}
use Rattle.textform.specs.Text.{append, with_float, step_at, step_with, fed_with, reading, well_formed}
use Rattle.textform.proofs.inner.read.Places.{floats_before, Within, rule_at}

-- the floats of the row's string, and of the other
abbrev pub of_row : State → List Float
of_row s = pick s.second s.b s.a

abbrev pub of_other : State → List Float
of_other s = pick s.second s.a s.b

abbrev pub InTriples : State → Type 0
InTriples s = s.place ≤ row_last → (length (of_row s) % 3 ≡ floats_before s.place % 3) × (length (of_other s) % 3 ≡ 0)

pub malformed_triples : (s : State) → InTriples (malformed s)
malformed_triples s h = absurd (omega arith)

module _ (s : State) (triples : InTriples s) where
  -- on in the same row, over no whole float
  onward_triples : (word : ℕ) → Within s.place → InTriples (onward s.second word s)
  onward_triples word w m = let t = triples w.in-row in (t.0 ∙ sym w.same-floats, t.1)

  -- on to a row of either string
  named_triples : (second : Bool) → part_at s.place ≡ P.Name → InTriples (onward second 0 s)
  unfolding floats_before
  named_triples second here m =
      let rule = rule_at s.place P.Name here in
      let t = triples rule.0.in-row in
      let none : floats_before s.place % 3 ≡ 0 = ap (λ (p : ℕ). floats_before p % 3) rule.1 in
      either s.second second (t.0 ∙ none) t.1 (rule.0.same-floats ∙ none)
    where
      either : (t u : Bool) → length (pick t s.b s.a) % 3 ≡ 0 → length (pick t s.a s.b) % 3 ≡ 0 → floats_before (place_after s.place) % 3 ≡ 0
          → (length (pick u s.b s.a) % 3 ≡ floats_before (place_after s.place) % 3) × (length (pick u s.a s.b) % 3 ≡ 0)
      either true true h k e = (h ∙ sym e, k)
      either true false h k e = (k ∙ sym e, h)
      either false true h k e = (k ∙ sym e, h)
      either false false h k e = (h ∙ sym e, k)

  -- one float more
  float_triples : (x : Float) → part_at s.place ≡ P.LastDigit → InTriples (with_float append x s)
  float_triples x here m =
      let rule = rule_at s.place P.LastDigit here in
      let t = triples rule.0 in
      by_row s.second t.0 t.1 rule.1
    where
      longer : (v : List Float) (n n' : ℕ) → length v % 3 ≡ n % 3 → n' ≡ n + 1 → length (v ++ (x ∷ [])) % 3 ≡ n' % 3
      longer v n n' h e = let g : length (v ++ (x ∷ [])) ≡ length v + 1 = length-append v (x ∷ []) in omega arith

      by_row : (t : Bool) → length (pick t s.b s.a) % 3 ≡ floats_before s.place % 3 → length (pick t s.a s.b) % 3 ≡ 0
          → floats_before (place_after s.place) ≡ floats_before s.place + 1
          → (length (pick t (pick t (s.b ++ (x ∷ [])) s.b) (pick t s.a (s.a ++ (x ∷ [])))) % 3 ≡ floats_before (place_after s.place) % 3)
          × (length (pick t (pick t s.a (s.a ++ (x ∷ []))) (pick t (s.b ++ (x ∷ [])) s.b)) % 3 ≡ 0)
      by_row true h k e = (longer s.b (floats_before s.place) (floats_before (place_after s.place)) h e, k)
      by_row false h k e = (longer s.a (floats_before s.place) (floats_before (place_after s.place)) h e, k)

  -- whatever byte comes
  module _ (byte : ℕ) where
    part_triples : (part : Part) → part_at s.place ≡ part → InTriples (step_at append part s byte)
    part_triples (P.Exactly c) here = by_test (eqb byte c)
      where
        by_test : (t : Bool) → InTriples (pick t (onward s.second 0 s) (malformed s))
        by_test true = onward_triples 0 (rule_at s.place (P.Exactly c) here)
        by_test false = malformed_triples s
    part_triples P.Name here = by_test (eqb byte letter_a) (eqb byte letter_b)
      where
        by_test : (t u : Bool) → InTriples (pick t (onward false 0 s) (pick u (onward true 0 s) (malformed s)))
        by_test true u = named_triples false here
        by_test false true = named_triples true here
        by_test false false = malformed_triples s
    part_triples P.Digit here = by_digit (hex_digit byte)
      where
        by_digit : (o : Option ℕ) → InTriples (if_digit o (λ (d : ℕ). onward s.second (16 * s.word + d) s) (malformed s))
        by_digit none = malformed_triples s
        by_digit (some d) = onward_triples (16 * s.word + d) (rule_at s.place P.Digit here).0
    part_triples P.LastDigit here = by_digit (hex_digit byte)
      where
        by_digit : (o : Option ℕ) → InTriples (if_digit o (λ (d : ℕ). with_float append (of_bits binary64 (16 * s.word + d)) s) (malformed s))
        by_digit none = malformed_triples s
        by_digit (some d) = float_triples (of_bits binary64 (16 * s.word + d)) here
    part_triples P.Nothing here = malformed_triples s

    pub step_triples : InTriples (step_with append s byte)
    unfolding step_with
    step_triples = part_triples (part_at s.place) refl

fed_triples : (s : State) (bytes : List ℕ) → InTriples s → InTriples (fed_with append s bytes)
unfolding in_turn
fed_triples s [] h = h
fed_triples s (byte ∷ bytes) h = fed_triples (step_with append s byte) bytes (step_triples s h byte)

pub start_triples : InTriples start
unfolding floats_before
start_triples m = (refl, refl)

-- whole triples
abbrev pub Whole : List Float → Type 0
Whole v = length v % 3 ≡ 0

-- both lists, where a row starts
pub whole_at_start : (s : State) → InTriples s → s.place ≡ row_start → Whole s.a × Whole s.b
unfolding floats_before
whole_at_start s triples p =
    let t = triples (omega arith) in
    either s.second (t.0 ∙ ap (λ (p : ℕ). floats_before p % 3) p) t.1
  where
    either : (t : Bool) → Whole (pick t s.b s.a) → Whole (pick t s.a s.b) → Whole s.a × Whole s.b
    either true h k = (k, h)
    either false h k = (h, k)

-- and past its name, if they were whole
pub triples_in_row : (second : Bool) (s : State) → Whole s.a → Whole s.b → InTriples (in_row second s)
unfolding floats_before
triples_in_row true s h k m = (k, h)
triples_in_row false s h k m = (h, k)

-- both lists of well-formed input
pub whole_triples : (bytes : List ℕ) → well_formed (reading bytes) ≡ true → Whole (reading bytes).a × Whole (reading bytes).b
unfolding reading well_formed
whole_triples bytes h =
    let s = reading bytes in
    whole_at_start s (fed_triples start bytes start_triples) (eqb-true s.place row_start h)
