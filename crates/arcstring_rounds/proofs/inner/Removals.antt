-- Removal of vertices by their positions: one, those that a walk passes over, several from the last to the first, and how many are left. Assumes nothing.
use mathlib.Core.Path.{◌≡◌, refl, sym, ap, ◌∙◌}
use mathlib.Core.Bool.{Bool, true, false}
use mathlib.Core.List.{List, [], ◌∷◌, ◌++◌, append_assoc}
use Prim.Native.Nat.{ℕ, suc, ◌+◌, ◌≤◌, ◌<◌}
use native.Mathlib.Omega.{arith}
use lib.ListN.{length, take, drop, length-append, length-drop}
use lib.Seq.{length-take-le, take_at, drop_at, drop-drop}
use lib.Dec.{ltb}
use borrow.Author.Tests.{lt-ltb, le-ltb, ltb-true}
use Rattle.sphericalpoint.specs.declared.SphericalPoint.{SphericalPoint}
use Rattle.arcstring_check.specs.Answer.{Answer, refused, answered, and_then, pick}
use Rattle.arcstring_rounds.specs.Rounds.{unnecessary, unnecessary_from, remove_at, remove_all}
use Rattle.arcstring_rounds.specs.Kept.{kept_from}

module _ {A : Type 0} where
  -- ---- one vertex

  pub removed_at : (k : ℕ) (ps : List A) → k < length ps → remove_at k ps ≡ answered (take k ps ++ drop (k + 1) ps)
  unfolding remove_at
  removed_at k ps h = ap (λ (b : Bool). pick b (answered (take k ps ++ drop (k + 1) ps)) (refused 5)) (lt-ltb k (length ps) h)

  pub removed_past_end : (k : ℕ) (ps : List A) → length ps ≤ k → remove_at k ps ≡ refused 5
  unfolding remove_at
  removed_past_end k ps h = ap (λ (b : Bool). pick b (answered (take k ps ++ drop (k + 1) ps)) (refused 5)) (le-ltb k (length ps) h)

  pub removed_between : (xs : List A) (q : A) (ys : List A) (k : ℕ) → length xs ≡ k → remove_at k (xs ++ q ∷ ys) ≡ answered (xs ++ ys)
  removed_between xs q ys k h =
      let t : take k (xs ++ q ∷ ys) ≡ xs = take_at xs (q ∷ ys) k h in
      let d : drop (k + 1) (xs ++ q ∷ ys) ≡ ys = sym (drop-drop 1 k (xs ++ q ∷ ys)) ∙ ap (drop 1) (drop_at xs (q ∷ ys) k h) in
      removed_at k (xs ++ q ∷ ys) (omega (arith, length-append xs (q ∷ ys))) ∙ ap answered (rw (t, d))

  -- ---- the positions of a run that are judged unnecessary, removed: what the walk over the run keeps

  kept_next : (b : Bool) (us : List ℕ) (k : ℕ) (xs : List A) (q : A) (qs ks : List A) → length xs ≡ k
      → remove_all us ((xs ++ (q ∷ [])) ++ qs) ≡ answered ((xs ++ (q ∷ [])) ++ ks)
      → remove_all (pick b (k ∷ us) us) (xs ++ q ∷ qs) ≡ answered (xs ++ pick b ks (q ∷ ks))
  unfolding remove_all
  kept_next true us k xs q qs ks h rest =
      ap (λ (a : Answer (List A)). and_then a (remove_at k))
      (ap (remove_all us) (sym (append_assoc xs (q ∷ []) qs)) ∙ rest ∙ ap answered (append_assoc xs (q ∷ []) ks))
      ∙ removed_between xs q ks k h
  kept_next false us k xs q qs ks h rest = ap (remove_all us) (sym (append_assoc xs (q ∷ []) qs)) ∙ rest ∙ ap answered (append_assoc xs (q ∷ []) ks)

  -- the list ps judges; the run qs stands at its positions from k on, in whatever list
  pub kept_of_run : (ps : List SphericalPoint) (k : ℕ) (xs qs : List A) → length xs ≡ k
      → remove_all (unnecessary_from ps k (length qs)) (xs ++ qs) ≡ answered (xs ++ kept_from ps k qs)
  unfolding unnecessary_from kept_from remove_all
  kept_of_run ps k xs [] h = refl
  kept_of_run ps k xs (q ∷ qs) h =
      kept_next (unnecessary ps k) (unnecessary_from ps (k + 1) (length qs)) k xs q qs (kept_from ps (k + 1) qs) h
      (kept_of_run ps (k + 1) (xs ++ (q ∷ [])) qs (length-append xs (q ∷ []) ∙ ap (λ (n : ℕ). n + 1) h))

  -- ---- several, from the last to the first

  then_answered : (a : Answer (List A)) → a ≡ and_then a (remove_all [])
  unfolding remove_all
  then_answered (refused n) = refl
  then_answered (answered ps) = refl

  in-turn : (a : Answer (List A)) (u : ℕ) (us : List ℕ) → and_then (and_then a (remove_all us)) (remove_at u) ≡ and_then a (remove_all (u ∷ us))
  unfolding remove_all
  in-turn (refused n) u us = refl
  in-turn (answered ps) u us = refl

  pub removed_in_turn : (us ws : List ℕ) (ps : List A) → remove_all (us ++ ws) ps ≡ and_then (remove_all ws ps) (remove_all us)
  unfolding remove_all
  removed_in_turn [] ws ps = then_answered (remove_all ws ps)
  removed_in_turn (u ∷ us) ws ps = ap (λ (a : Answer (List A)). and_then a (remove_at u)) (removed_in_turn us ws ps) ∙ in-turn (remove_all ws ps) u us

  pub removed_one : (k : ℕ) (ps : List A) → remove_all (k ∷ []) ps ≡ remove_at k ps
  unfolding remove_all
  removed_one k ps = refl

  -- ---- how many are left

  removed_one_less : (b : Bool) (k : ℕ) (ps qs : List A) → ltb k (length ps) ≡ b → pick b (answered (take k ps ++ drop (k + 1) ps)) (refused 5) ≡ answered qs
      → length qs + 1 ≡ length ps
  removed_one_less true k ps qs t h =
      let e : take k ps ++ drop (k + 1) ps ≡ qs = cc in
      let l : k < length ps = ltb-true k (length ps) t in
      omega (arith, ap length e, length-append (take k ps) (drop (k + 1) ps), length-take-le k ps (omega arith), length-drop (k + 1) ps)
  removed_one_less false k ps qs t h = absurd (let z : ◌≡◌ {A = ℕ} 0 1 = cc in omega arith)

  pub one_less : (k : ℕ) (ps qs : List A) → remove_at k ps ≡ answered qs → length qs + 1 ≡ length ps
  unfolding remove_at
  one_less k ps qs h = removed_one_less (ltb k (length ps)) k ps qs refl h

  removed_shorter_by : (a : Answer (List A)) (u : ℕ) (us : List ℕ) (ps qs : List A)
      → ((rs : List A) → a ≡ answered rs → length rs + length us ≡ length ps) → and_then a (remove_at u) ≡ answered qs → length qs + suc (length us) ≡ length ps
  removed_shorter_by (refused n) u us ps qs rest h = absurd (let z : ◌≡◌ {A = ℕ} 0 1 = cc in omega arith)
  removed_shorter_by (answered rs) u us ps qs rest h = omega (arith, rest rs refl, one_less u rs qs h)

  -- every position removes one vertex
  pub removed_shorter : (us : List ℕ) (ps qs : List A) → remove_all us ps ≡ answered qs → length qs + length us ≡ length ps
  unfolding remove_all
  removed_shorter [] ps qs h = let e : ps ≡ qs = cc in omega (arith, ap length e)
  removed_shorter (u ∷ us) ps qs h = removed_shorter_by (remove_all us ps) u us ps qs (removed_shorter us ps) h
