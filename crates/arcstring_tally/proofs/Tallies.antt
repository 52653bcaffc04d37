-- What the walks over legs count up: one pair, pairs after pairs, how large the counts get, and that a walk has counted all. Assumes nothing.
use mathlib.Core.Path.{◌≡◌, refl, sym, ap, ◌∙◌}
use mathlib.Core.List.{List, [], ◌∷◌, ◌++◌, filter_map, filter_map-append}
use Prim.Native.Nat.{ℕ, zero, suc, ◌+◌, ◌*◌, ◌≤◌}
use native.Mathlib.Nat.{add-zero, zero-add, add_assoc}
use native.Mathlib.Omega.{arith}
use lib.ListN.{length, length-append, replicate}
use Rattle.sphericalpoint.specs.declared.SphericalPoint.{SphericalPoint}
use Rattle.arcstring_pair.specs.declared.pair.Pair.{Pair}
use Rattle.arcstring_pair.specs.declared.pair.Pair.TheVariants.{Clean, End, Grazing, Apart}
use Rattle.arcstring_pair.specs.declared.pair.Outcome.{Outcome}
use Rattle.arcstring_pair.specs.declared.pair.Outcome.TheVariants.{Kept, Dropped, None}
use Rattle.arcstring_tally.specs.declared.inner.tally.Tally.{Tally}
use Rattle.arcstring_tally.specs.Pairs.{total, one_clean, one_end, one_grazing, one_apart, kept_mark, kept_marks, counts_of}
use Rattle.arcstring_tally.specs.Tally.{no_tally, tally_on, tally_sum, tally_counts}

-- ---- one pair

pub kept_of_kept : (o : Outcome) (p : SphericalPoint) → o ≡ Kept p → 1 ≡ length (kept_marks (Grazing o ∷ []))
unfolding kept_marks filter_map
kept_of_kept o p h = rw h

pub kept_of_dropped : (o : Outcome) (p : SphericalPoint) → o ≡ Dropped p → 0 ≡ length (kept_marks (Grazing o ∷ []))
unfolding kept_marks filter_map
kept_of_dropped o p h = rw h

pub kept_of_none : (o : Outcome) → o ≡ None → 0 ≡ length (kept_marks (Grazing o ∷ []))
unfolding kept_marks filter_map
kept_of_none o h = rw h

pub kept_of_grazing : (o : Outcome) (k : ℕ) → k ≡ length (kept_marks (Grazing o ∷ [])) → k ≤ 1
unfolding kept_marks filter_map
kept_of_grazing (Kept p) k h = omega arith
kept_of_grazing (Dropped p) k h = omega arith
kept_of_grazing None k h = omega arith

module _ (t : Tally) (p : Pair) where
  pub count_clean : (x : SphericalPoint) → p ≡ Clean x
      → ◌≡◌ {A = Tally} (record { clean = t.clean + 1; end = t.end; grazing = t.grazing; apart = t.apart; kept = t.kept + 1 }) (tally_on t (p ∷ []))
  unfolding tally_on total kept_marks filter_map
  count_clean x h = simp (h, add-zero)

  pub count_end : (x : SphericalPoint) → p ≡ End x
      → ◌≡◌ {A = Tally} (record { clean = t.clean; end = t.end + 1; grazing = t.grazing; apart = t.apart; kept = t.kept }) (tally_on t (p ∷ []))
  unfolding tally_on total kept_marks filter_map
  count_end x h = simp (h, add-zero)

  pub count_grazing : (o : Outcome) (k : ℕ) → p ≡ Grazing o → k ≡ length (kept_marks (Grazing o ∷ []))
      → ◌≡◌ {A = Tally} (record { clean = t.clean; end = t.end; grazing = t.grazing + 1; apart = t.apart; kept = t.kept + k }) (tally_on t (p ∷ []))
  unfolding tally_on total
  count_grazing o k h e = simp (h, add-zero, e)

  pub count_apart : p ≡ Apart
      → ◌≡◌ {A = Tally} (record { clean = t.clean; end = t.end; grazing = t.grazing; apart = t.apart + 1; kept = t.kept }) (tally_on t (p ∷ []))
  unfolding tally_on total kept_marks filter_map
  count_apart h = simp (h, add-zero)

-- ---- pairs after pairs

pub total-append : {X : Type 0} (g : X → ℕ) (xs ys : List X) → total g (xs ++ ys) ≡ total g xs + total g ys
unfolding total
total-append g [] ys = sym (zero-add (total g ys))
total-append g (x ∷ xs) ys = omega (arith, total-append g xs ys)

pub kept_append : (ps qs : List Pair) → kept_marks (ps ++ qs) ≡ kept_marks ps ++ kept_marks qs
unfolding kept_marks
kept_append ps qs = filter_map-append kept_mark ps qs

pub count_nothing : (t : Tally) → tally_on t [] ≡ t
unfolding tally_on total kept_marks filter_map
count_nothing t = simp add-zero

pub count_append : (t : Tally) (ps qs : List Pair) → tally_on t (ps ++ qs) ≡ tally_on (tally_on t ps) qs
unfolding tally_on
count_append t ps qs = simp (total-append, kept_append, length-append, add_assoc)

-- ---- how large the counts get

pub all_classes : (ps : List Pair) → total one_clean ps + total one_end ps + total one_grazing ps + total one_apart ps ≡ length ps
unfolding total
all_classes [] = refl
all_classes (Clean p ∷ ps) = omega (arith, all_classes ps)
all_classes (End p ∷ ps) = omega (arith, all_classes ps)
all_classes (Grazing o ∷ ps) = omega (arith, all_classes ps)
all_classes (Apart ∷ ps) = omega (arith, all_classes ps)

pub kept_bound : (ps : List Pair) → length (kept_marks ps) ≤ length ps
unfolding kept_marks filter_map
kept_bound [] = omega arith
kept_bound (Clean p ∷ ps) = omega (arith, kept_bound ps)
kept_bound (End p ∷ ps) = omega (arith, kept_bound ps)
kept_bound (Grazing (Kept p) ∷ ps) = omega (arith, kept_bound ps)
kept_bound (Grazing (Dropped p) ∷ ps) = omega (arith, kept_bound ps)
kept_bound (Grazing None ∷ ps) = omega (arith, kept_bound ps)
kept_bound (Apart ∷ ps) = omega (arith, kept_bound ps)

pub sum_grows : (t : Tally) (ps : List Pair) → tally_sum t ≤ tally_sum (tally_on t ps)
unfolding tally_on
sum_grows t ps = omega arith

pub sum_bound : (t : Tally) (ps : List Pair) → tally_sum (tally_on t ps) ≤ tally_sum t + 2 * length ps
unfolding tally_on
sum_bound t ps = omega (arith, all_classes ps, kept_bound ps)

-- ---- pairs that are all apart

no_others : (m : ℕ) → (total one_clean (replicate m Apart) ≡ 0) × (total one_end (replicate m Apart) ≡ 0) × (total one_grazing (replicate m Apart) ≡ 0)
unfolding total
no_others zero = (refl, refl, refl)
no_others (suc m) = let r = no_others m in (omega (arith, r.0), omega (arith, r.1), omega (arith, r.2))

so_many_apart : (m : ℕ) → total one_apart (replicate m Apart) ≡ m
unfolding total
so_many_apart zero = refl
so_many_apart (suc m) = omega (arith, so_many_apart m)

pub aparts_keep_none : (m : ℕ) → kept_marks (replicate m Apart) ≡ []
unfolding kept_marks filter_map
aparts_keep_none zero = refl
aparts_keep_none (suc m) = aparts_keep_none m

pub count_aparts : (t : Tally) (m : ℕ) → ◌≡◌ {A = Tally} (record
    { clean = t.clean; end = t.end; grazing = t.grazing; apart = t.apart + m; kept = t.kept }) (tally_on t (replicate m Apart))
unfolding tally_on
count_aparts t m = let r = no_others m in simp (r.0, r.1, r.2, so_many_apart m, aparts_keep_none m, add-zero)

pub count_no_aparts : (t : Tally) (m : ℕ) → m ≡ 0 → t ≡ tally_on t (replicate m Apart)
count_no_aparts t m h = rw h (simp add-zero at (count_aparts t 0))

-- ---- the walks: what is counted so far, with what is still to be visited counted on, is the count of all

pub counted_on : (t r all : Tally) (rest ps qs : List Pair) → rest ≡ ps ++ qs → r ≡ tally_on t ps → tally_on t rest ≡ all → tally_on r qs ≡ all
counted_on t r all rest ps qs h hr e = ap (λ (s : Tally). tally_on s qs) hr ∙ sym (count_append t ps qs) ∙ ap (tally_on t) (sym h) ∙ e

-- nothing visited yet, and nothing more to visit
pub counted_none : (t : Tally) (ps : List Pair) → t ≡ no_tally → tally_on t ps ≡ tally_on no_tally ps
counted_none t ps h = ap (λ (s : Tally). tally_on s ps) h

pub counted_all : (t all : Tally) (ps : List Pair) → ps ≡ [] → tally_on t ps ≡ all → t ≡ all
counted_all t all ps h e = sym (count_nothing t) ∙ ap (tally_on t) (sym h) ∙ e

-- what is counted so far is at most the count of all
pub sum_so_far : (t s : Tally) (ps qs : List Pair) (m : ℕ) → tally_on t ps ≡ tally_on s qs → length qs ≤ m → tally_sum t ≤ tally_sum s + 2 * m
sum_so_far t s ps qs m e h = omega (arith, sum_grows t ps, sum_bound s qs, ap tally_sum e)

-- ---- a tally from nothing

pub tally_kept : (r : Tally) (ps : List Pair) → r ≡ tally_on no_tally ps → r.kept ≡ length (kept_marks ps)
unfolding tally_on
tally_kept r ps h = ap (λ (t : Tally). t.kept) h ∙ zero-add (length (kept_marks ps))

pub tally_counts_lem : (r : Tally) (ps : List Pair) → r ≡ tally_on no_tally ps → tally_counts r ≡ counts_of ps
unfolding tally_on counts_of
tally_counts_lem r ps h = ap tally_counts h ∙ simp zero-add
