-- What the code keeps of a reading answers as the plain reading does, as `specs/CountLaws.antt` has it. Assumes nothing.
use mathlib.Core.Path.{◌≡◌, refl, sym, ap, ap₂, ◌∙◌}
use mathlib.Core.Bool.{Bool, true, false, ◌&&◌, false≢true}
use mathlib.Core.List.{List, [], ◌∷◌, map}
use Prim.Native.Nat.{ℕ, zero, suc, ◌%◌}
use native.Mathlib.Omega.{arith}
use lib.Dec.{ltb}
use lib.ListN.{length, length-map}
use lib.Ieee.{Float, nan, inf, fin, le}
use borrow.Author.Tests.{ltb-true, ltb-false}
use Rattle.arcstring_check.specs.Answer.{Answer, answered, unless_refused, pick}
use Rattle.arcstring_check.specs.Check.{in_range, all_in_range, build_check}
use Rattle.arcstring_check.proofs.Checks.{too_many, build_enough, build_whole, build_by_parts}
use Rattle.arcstring.specs.Points.{points}
use Rattle.arcstring_build.specs.Build.{built_string}
use Rattle.arcstring_tally.specs.declared.counts.Counts.{Counts}
use Rattle.textform.specs.Text.{reading, well_formed}
use Rattle.textform.specs.Kept.{floats_kept, in_place}
use Rattle.textform.proofs.Readings.{kept_of, kept_short, kept_long, kept_reading_lem}
use Rattle.textform.proofs.inner.read.Triples.{whole_triples}
use Rattle.textform_count.specs.Count.{counts_between, count_built, count_state}
use Rattle.textform_count.specs.CountLaws.{KeptCounts}

range_in_place : (x : Float) → in_range (in_place x) ≡ in_range x
unfolding in_range le
range_in_place nan = refl
range_in_place (inf s) = refl
range_in_place (fin s m e) = refl

ranges_in_place : (v : List Float) → all_in_range (map in_place v) ≡ all_in_range v
unfolding all_in_range
ranges_in_place [] = refl
ranges_in_place (x ∷ v) = ap₂ ◌&&◌ (range_in_place x) (ranges_in_place v)

-- no coordinate in range is a NaN
in_range_same : (x : Float) → in_range x ≡ true → in_place x ≡ x
unfolding in_range le
in_range_same nan h = absurd (false≢true h)
in_range_same (inf s) h = refl
in_range_same (fin s m e) h = refl

pub both_true : (t u : Bool) → t && u ≡ true → (t ≡ true) × (u ≡ true)
both_true true u h = (refl, h)
both_true false u h = absurd (false≢true h)

all_in_range_same : (v : List Float) → all_in_range v ≡ true → map in_place v ≡ v
unfolding all_in_range
all_in_range_same [] h = refl
all_in_range_same (x ∷ v) h =
    let both = both_true (in_range x) (all_in_range v) h in
    ap₂ ◌∷◌ (in_range_same x both.0) (all_in_range_same v both.1)

module _ (v : List Float) where
  -- of whole triples, what is kept is refused as the list is
  pub kept_check : length v % 3 ≡ 0 → build_check (kept_of v) ≡ build_check v
  kept_check h = by_length (ltb (length v) floats_kept) refl
    where
      by_length : (t : Bool) → ltb (length v) floats_kept ≡ t → build_check (kept_of v) ≡ build_check v
      by_length true e =
          let l = ltb-true (length v) floats_kept e in
          ap build_check (kept_short v (omega arith)) ∙ build_by_parts (map in_place v) v (length-map v in_place) (ranges_in_place v)
      by_length false e =
          let l = ltb-false (length v) floats_kept e in
          let n = kept_long v l in
          sym (too_many 0 (kept_of v) (omega arith) refl (omega arith) ∙ build_enough (kept_of v) (omega arith))
          ∙ (too_many 0 v h refl (omega arith) ∙ build_enough v (omega arith))

  -- and an accepted list is kept as it is
  pub kept_accepted : build_check v ≡ 0 → kept_of v ≡ v
  kept_accepted h =
      let w = build_whole v h in
      kept_short v (omega arith) ∙ all_in_range_same v w.in-range

-- an answer behind two checks
behind_checks : {A : Type 0} (m n : ℕ) (x y : Answer A) → (m ≡ 0 → n ≡ 0 → x ≡ y)
    → unless_refused m (unless_refused n x) ≡ unless_refused m (unless_refused n y)
behind_checks zero zero x y h = h refl refl
behind_checks zero (suc n) x y h = refl
behind_checks (suc m) n x y h = refl

-- two lists of whole triples are counted as they are
pub kept_built : (a b : List Float) → length a % 3 ≡ 0 → length b % 3 ≡ 0 → count_built (kept_of a) (kept_of b) ≡ count_built a b
unfolding count_built
kept_built a b h k =
    ap₂ (λ (m n : ℕ). unless_refused m (unless_refused n (counts (kept_of a) (kept_of b)))) (kept_check a h) (kept_check b k)
    ∙ behind_checks (build_check a) (build_check b) _ _ (λ p q. ap₂ counts (kept_accepted a p) (kept_accepted b q))
  where
    counts : List Float → List Float → Answer Counts
    counts v w = answered (counts_between (built_string (points v)) (built_string (points w)))

-- a choice by a test, which makes the first two the same where it holds
pub pick_same : {A : Type 0} (t : Bool) (x y z : A) → (t ≡ true → x ≡ y) → pick t x z ≡ pick t y z
pick_same true x y z h = h refl
pick_same false x y z h = refl

-- so the counts are those of the plain reading
pub kept_counts : KeptCounts
unfolding count_state well_formed
kept_counts bytes =
    let s = reading bytes in
    ap count_state (kept_reading_lem bytes)
    ∙ pick_same (well_formed s) _ _ _ (λ e. let w = whole_triples bytes e in kept_built s.a s.b w.0 w.1)
