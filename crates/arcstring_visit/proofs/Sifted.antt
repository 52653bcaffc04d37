-- The pairs of a row that are flagged: with those left out, which are apart, they are the row. Assumes nothing.
use mathlib.Core.Path.{◌≡◌, refl, sym, ap, ◌∙◌}
use mathlib.Core.Bool.{Bool, true, false}
use mathlib.Core.List.{List, [], ◌∷◌, ◌++◌, map, filter_map}
use Prim.Native.Nat.{ℕ, zero, suc, ◌+◌, ◌-◌, ◌*◌, ◌<◌, ◌≤◌}
use native.Mathlib.Numerals.{add-one}
use native.Mathlib.Omega.{arith}
use borrow.Author.Tests.{eqb-true}
use lib.Dec.{eqb}
use native.Mathlib.Nat.{add-zero, sub-zero}
use lib.ListN.{length, get_or, take, replicate, length-map, length-replicate}
use lib.Seq.{drop-cons, length-take-le, take-length, get_or-take}
use lib.Ieee.{Float}
use Rattle.arcstring_pair.specs.declared.pair.Pair.{Pair}
use Rattle.arcstring_pair.specs.declared.pair.Pair.TheVariants.{Apart}
use Rattle.arcstring.specs.Leg.{Leg, leg_at}
use Rattle.arcstring_pair.specs.Pair.{pair_of}
use Rattle.arcstring_crossing.specs.Plane.{FlagsOf, flagged_from}
use Rattle.arcstring_tally.specs.declared.inner.tally.Tally.{Tally}
use Rattle.arcstring_tally.specs.Pairs.{Mark, total, one_clean, one_end, one_grazing, one_apart, kept_marks}
use Rattle.arcstring_tally.specs.Tally.{tally_on, tally_sum}
use Rattle.arcstring_visit.specs.Visit.{row_pairs, found_pairs}
use Rattle.arcstring_visit.proofs.Rows.{row_next, row_none}
use Rattle.arcstring_tally.proofs.Tallies.{total-append, kept_append, count_append, sum_bound, aparts_keep_none}

-- ---- pairs of which so many that are apart are left out

pub data Sifted : List Pair → List Pair → ℕ → Type 0 where
  none : Sifted [] [] 0
  tested : {ps qs : List Pair} {m : ℕ} (p : Pair) → Sifted ps qs m → Sifted (p ∷ ps) (p ∷ qs) m
  left_out : {ps qs : List Pair} {m : ℕ} → Sifted ps qs m → Sifted (Apart ∷ ps) qs (suc m)

sifted_total : (f : Pair → ℕ) {ps qs : List Pair} {m : ℕ} → Sifted ps qs m → total f ps ≡ total f (replicate m Apart) + total f qs
unfolding total
sifted_total f none = refl
sifted_total f (tested p s) = omega (arith, sifted_total f s)
sifted_total f (left_out s) = omega (arith, sifted_total f s)

sifted_kept : {ps qs : List Pair} {m : ℕ} → Sifted ps qs m → kept_marks ps ≡ kept_marks qs
unfolding kept_marks filter_map
sifted_kept none = refl
sifted_kept (tested {ps} {qs} p s) = kept_append (p ∷ []) ps ∙ ap (λ (l : List Mark). kept_marks (p ∷ []) ++ l) (sifted_kept s) ∙ sym (kept_append (p ∷ []) qs)
sifted_kept (left_out s) = sifted_kept s

same_tally : (t : Tally) (ps qs : List Pair) → ((f : Pair → ℕ) → total f ps ≡ total f qs) → kept_marks ps ≡ kept_marks qs → tally_on t ps ≡ tally_on t qs
unfolding tally_on
same_tally t ps qs h k = simp (h one_clean, h one_end, h one_grazing, h one_apart, k)

-- pairs that are apart keep no place
same_place : (t u : Tally) (m : ℕ) → u ≡ tally_on t (replicate m Apart) → u.kept ≡ t.kept
unfolding tally_on
same_place t u m h = ap (λ (x : Tally). x.kept) h ∙ rw (aparts_keep_none m) (add-zero t.kept)

module _ {ps qs : List Pair} {m : ℕ} (sift : Sifted ps qs m) where
  pub sifted_tally : (t u r : Tally) → u ≡ tally_on t (replicate m Apart) → r ≡ tally_on u qs → r ≡ tally_on t ps
  sifted_tally t u r hu hr =
      hr
      ∙ ap (λ (x : Tally). tally_on x qs) hu
      ∙ sym (count_append t (replicate m Apart) qs)
      ∙ same_tally t (replicate m Apart ++ qs) ps (λ f. total-append f (replicate m Apart) qs ∙ sym (sifted_total f sift))
      (kept_append (replicate m Apart) qs ∙ ap (λ (l : List Mark). l ++ kept_marks qs) (aparts_keep_none m) ∙ sym (sifted_kept sift))

  module _ {S : Type 0} (t u : Tally) (h : u ≡ tally_on t (replicate m Apart)) where
    pub sifted_room : (room : S → List Mark → ℕ → Type 0) (s : S) → room s (kept_marks ps) t.kept → room s (kept_marks qs) u.kept
    sifted_room room s r = rw (same_place t u m h, ← sifted_kept sift) r

    pub sifted_written : (written : List Mark → ℕ → S → S → Type 0) (s s' : S) → written (kept_marks qs) u.kept s s' → written (kept_marks ps) t.kept s s'
    sifted_written written s s' w = rw (← same_place t u m h, sifted_kept sift) w

pub sum_with_rest : (t u : Tally) (c m n : ℕ) → u ≡ tally_on t (replicate c Apart) → c + m ≤ n → tally_sum t + 2 * n < 4294967296
    → tally_sum u + 2 * m < 4294967296
sum_with_rest t u c m n h l s = omega (arith, ap tally_sum h, sum_bound t (replicate c Apart), length-replicate c Apart)

-- ---- a row

module _ (margin : Float) (a : Leg) (v : List Float) (n : ℕ) where
  abbrev pair_at : ℕ → Pair
  pair_at k = pair_of margin a (leg_at v n k)

  -- one flagged pair more
  pub found_next : (flagged : List ℕ) (k j m : ℕ) (p : Pair) → j < m → m ≤ length flagged → k ≡ get_or flagged j 0 → p ≡ pair_at k
      → found_pairs margin a v n flagged j m ≡ (p ∷ []) ++ found_pairs margin a v n flagged (j + 1) m
  unfolding found_pairs
  found_next flagged k j m p h l hk hp =
      let e : m - j ≡ suc (m - suc j) = omega arith in
      rw (add-one, e, drop-cons flagged j 0 (omega arith), ← hk, ← hp)

  pub found_none : (flagged : List ℕ) (j m : ℕ) → m ≤ j → found_pairs margin a v n flagged j m ≡ []
  unfolding found_pairs
  found_none flagged j m h = let e : m - j ≡ 0 = omega arith in rw e

  pub found_few : (flagged : List ℕ) (m : ℕ) → m ≤ length flagged → length (found_pairs margin a v n flagged 0 m) ≤ m
  unfolding found_pairs
  found_few flagged m h = omega (arith, length-map (take (m - 0) flagged) pair_at, length-take-le (m - 0) flagged (omega arith))

  module _ (whole : length v ≡ 3 * n) (from to : ℕ) (short : to ≤ n) (flags : List ℕ) (told : FlagsOf margin a v n from to flags) where
    record Row (c k : ℕ) : Type 0 where
      left : ℕ
      sum : length (flagged_from flags k c) + left ≡ c
      sifted : Sifted (row_pairs margin a v k to) (map pair_at (flagged_from flags k c)) left

    step : (c k : ℕ) (b : Bool) → eqb (get_or flags k 0) 0 ≡ b → k < to → from ≤ k → Row c (k + 1) → Row (suc c) k
    unfolding flagged_from
    step c k true e l h r =
        let q : flagged_from flags k (suc c) ≡ flagged_from flags (k + 1) c = rw e in
        let x = leg_at v n k in
        let row = row_next margin v n whole a x Apart k to l short refl (told.each k h l (eqb-true (get_or flags k 0) 0 e)) in
        record { left = suc r.left; sum = omega (arith, ap length q, r.sum); sifted = rw (row, q) (left_out r.sifted) }
    step c k false e l h r =
        let q : flagged_from flags k (suc c) ≡ k ∷ flagged_from flags (k + 1) c = rw e in
        let row = row_next margin v n whole a (leg_at v n k) (pair_at k) k to l short refl refl in
        record { left = r.left; sum = omega (arith, ap length q, r.sum); sifted = rw (row, q) (tested (pair_at k) r.sifted) }

    sifts : (c k : ℕ) → to - k ≡ c → from ≤ k → Row c k
    unfolding flagged_from
    sifts zero k e h = record { left = 0; sum = refl; sifted = rw (row_none margin a v k to (omega arith)) none }
    sifts (suc c) k e h = step c k (eqb (get_or flags k 0) 0) refl (omega arith) h (sifts c (k + 1) (omega arith) (omega arith))

    pub row_sifted : (found : List ℕ) (m : ℕ) → length found ≡ m → found ≡ flagged_from flags from (to - from)
        → Sifted (row_pairs margin a v from to) (found_pairs margin a v n found 0 (length found)) (to - from - m)
    unfolding found_pairs
    row_sifted found m long e =
        let r = sifts (to - from) from refl (omega arith) in
        let z : take (length found - 0) found ≡ found = rw sub-zero (take-length found) in
        let left : r.left ≡ to - from - m = omega (arith, r.sum, ap length e) in
        rw (z, e, ← left) r.sifted

-- the first positions of a list are below what each of them is below
pub found_below : (list : List ℕ) (m to : ℕ) → length (take m list) ≡ m → ((j : ℕ) → j < m → get_or list j 0 < to) → (j : ℕ) → j < length (take m list)
    → get_or (take m list) j 0 < to
found_below list m to long below j h = let l : j < m = omega arith in rw (get_or-take m list j 0 l) (below j l)
