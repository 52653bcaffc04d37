-- The positions of the flags that are set, gathered one after the other. Assumes nothing.
use mathlib.Core.Path.{◌≡◌, sym, ap, ◌∙◌}
use mathlib.Core.Bool.{Bool, true, false}
use mathlib.Core.List.{List, [], ◌∷◌, ◌++◌, append_assoc, append-nil}
use Prim.Native.Nat.{ℕ, suc, ◌+◌, ◌-◌, ◌<◌, ◌≤◌}
use native.Mathlib.Numerals.{add-one}
use native.Mathlib.Omega.{arith}
use borrow.Author.Count.{below_more}
use lib.Dec.{eqb}
use lib.ListN.{length, get_or, set, take}
use lib.Seq.{get_or-set_same, get_or-set_other, take-set-le, take-suc-set}
use Rattle.arcstring_check.specs.Answer.{pick}
use Rattle.arcstring_crossing.specs.Plane.{flagged_from}

flagged-step : (flags : List ℕ) (k m c : ℕ) → m ≡ suc c → flagged_from flags k m ≡ pick (eqb (get_or flags k 0) 0) [] (k ∷ []) ++ flagged_from flags (k + 1) c
unfolding flagged_from
flagged-step flags k m c h = rw h

-- one position more: written, and counted if its flag is set
pub gathered_place : (flags : List ℕ) (k n r : ℕ) → r ≡ pick (eqb (get_or flags k 0) 0) n (n + 1) → r ≤ n + 1
gathered_place flags k n r h = go (eqb (get_or flags k 0) 0) h
  where
    go : (b : Bool) → r ≡ pick b n (n + 1) → r ≤ n + 1
    go true e = omega arith
    go false e = omega arith

module _ (flags : List ℕ) (to k n : ℕ) (flagged : List ℕ) (more : k < to) (room : n < length flagged) where
  pub gathered_on : (all : List ℕ) (r : ℕ) → r ≡ pick (eqb (get_or flags k 0) 0) n (n + 1) → take n flagged ++ flagged_from flags k (to - k) ≡ all
      → take r (set flagged n k) ++ flagged_from flags (k + 1) (to - (k + 1)) ≡ all
  gathered_on all r hr h =
      let s = flagged-step flags k (to - k) (to - (k + 1)) (omega arith) in
      go (eqb (get_or flags k 0) 0) hr (ap (λ (l : List ℕ). take n flagged ++ l) (sym s) ∙ h)
    where
      go : (b : Bool) → r ≡ pick b n (n + 1) → take n flagged ++ (pick b [] (k ∷ []) ++ flagged_from flags (k + 1) (to - (k + 1))) ≡ all
          → take r (set flagged n k) ++ flagged_from flags (k + 1) (to - (k + 1)) ≡ all
      go true e q = rw (e, take-set-le n flagged n k (omega arith)) q
      go false e q =
          rw (e, add-one n, take-suc-set flagged n k room) (append_assoc (take n flagged) (k ∷ []) (flagged_from flags (k + 1) (to - (k + 1))) ∙ q)

  pub gathered_below : (r : ℕ) → r ≡ pick (eqb (get_or flags k 0) 0) n (n + 1) → ((j : ℕ) → j < n → get_or flagged j 0 < to) → (j : ℕ) → j < r
      → get_or (set flagged n k) j 0 < to
  gathered_below r hr all-below j h =
      let below = below_more (λ (i : ℕ). get_or (set flagged n k) i 0 < to) n
      (λ i l. rw (get_or-set_other flagged n i k 0 (λ e. absurd (omega arith))) (all-below i l))
      (rw (get_or-set_same flagged n k 0 room) more) in
      below j (omega (arith, gathered_place flags k n r hr))

pub gathered_all : (flags : List ℕ) (to k n : ℕ) (flagged all : List ℕ) → to ≤ k → take n flagged ++ flagged_from flags k (to - k) ≡ all → take n flagged ≡ all
unfolding flagged_from
gathered_all flags to k n flagged all h e =
    let z : to - k ≡ 0 = omega arith in
    sym (append-nil (take n flagged)) ∙ ap (λ (c : ℕ). take n flagged ++ flagged_from flags k c) (sym z) ∙ e
