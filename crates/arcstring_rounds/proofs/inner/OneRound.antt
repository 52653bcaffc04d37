-- What one round of simplifying leaves, by how vertex 1 and the last vertex are judged. Assumes nothing.
use mathlib.Core.Path.{◌≡◌, refl, sym, ap, ◌∙◌}
use mathlib.Core.Bool.{Bool, true, false, not}
use mathlib.Core.List.{List, [], ◌∷◌, ◌++◌, append-nil}
use Prim.Native.Nat.{ℕ, zero, suc, ◌+◌, ◌-◌, ◌≤◌}
use native.Mathlib.Omega.{arith}
use lib.ListN.{length, take, drop}
use borrow.Author.Tests.{not-true, not-false}
use Rattle.sphericalpoint.specs.declared.SphericalPoint.{SphericalPoint}
use Rattle.arcstring_check.specs.Answer.{Answer, refused, answered, and_then, pick}
use Rattle.arcstring_rounds.specs.Rounds.{unnecessary, unnecessary_from, unnecessary_positions, remove_all}
use Rattle.arcstring_rounds.specs.Kept.{kept_vertices}
use Rattle.arcstring_rounds.proofs.inner.Removals.{removed_at, removed_past_end, removed_in_turn, removed_one, kept_of_run}

-- ---- the positions

one-judged : (ps : List SphericalPoint) (k : ℕ) (b : Bool) → unnecessary ps k ≡ b → unnecessary_from ps k 1 ≡ pick b (k ∷ []) []
unfolding unnecessary_from
one-judged ps k b h = ap (λ (t : Bool). pick t (k ∷ []) []) h

positions_open : (ps : List SphericalPoint) → unnecessary_positions ps false ≡ unnecessary_from ps 1 (length ps - 1)
unfolding unnecessary_positions
positions_open ps = append-nil (unnecessary_from ps 1 (length ps - 1))

positions_closed : (ps : List SphericalPoint) (b : Bool) → unnecessary ps 1 ≡ b
    → unnecessary_positions ps true ≡ unnecessary_from ps 1 (length ps - 1) ++ pick b (1 ∷ []) []
unfolding unnecessary_positions
positions_closed ps b h = ap (λ (us : List ℕ). unnecessary_from ps 1 (length ps - 1) ++ us) (one-judged ps 1 b h)

-- so many positions, and one more
next-judged : (t : Bool) (k : ℕ) (us ws : List ℕ) → pick t (k ∷ (us ++ ws)) (us ++ ws) ≡ pick t (k ∷ us) us ++ ws
next-judged true k us ws = refl
next-judged false k us ws = refl

last_judged : (ps : List SphericalPoint) (k count : ℕ) → unnecessary_from ps k (suc count) ≡ unnecessary_from ps k count ++ unnecessary_from ps (k + count) 1
unfolding unnecessary_from
last_judged ps k zero = let e : k + 0 ≡ k = omega arith in rw e
last_judged ps k (suc count) =
    let e : k + suc count ≡ k + 1 + count = omega arith in
    rw e
    (ap (λ (us : List ℕ). pick (unnecessary ps k) (k ∷ us) us) (last_judged ps (k + 1) count)
    ∙ next-judged (unnecessary ps k) k (unnecessary_from ps (k + 1) count) (unnecessary_from ps (k + 1 + count) 1))

-- ---- one round: the points ps judge, and the list xs, as long as ps, is what vertices are removed from

module _ {A : Type 0} (ps : List SphericalPoint) where
  kept_once : (xs : List A) → length ps ≡ length xs → 1 ≤ length xs → remove_all (unnecessary_from ps 1 (length ps - 1)) xs ≡ answered (kept_vertices ps xs 0)
  unfolding kept_vertices
  kept_once [] same h = absurd (omega arith)
  kept_once (x ∷ xs) same h =
      let e : length ps - 1 ≡ length xs = omega arith in
      rw e (kept_of_run ps 1 (x ∷ []) xs refl)

  -- of an open string, and of a closed one that needs vertex 1
  pub round_open : (xs : List A) → length ps ≡ length xs → 1 ≤ length xs → remove_all (unnecessary_positions ps false) xs ≡ answered (kept_vertices ps xs 0)
  round_open xs same h = ap (λ (us : List ℕ). remove_all us xs) (positions_open ps) ∙ kept_once xs same h

  pub round_first_needed : (xs : List A) → length ps ≡ length xs → 1 ≤ length xs → unnecessary ps 1 ≡ false
      → remove_all (unnecessary_positions ps true) xs ≡ answered (kept_vertices ps xs 0)
  round_first_needed xs same h t =
      ap (λ (us : List ℕ). remove_all us xs) (positions_closed ps false t ∙ append-nil (unnecessary_from ps 1 (length ps - 1))) ∙ kept_once xs same h

  -- of a closed one whose vertex 1 is unnecessary: it goes first
  first_goes : (xs : List A) (p q : A) (qs : List A) (b : Bool) → xs ≡ p ∷ q ∷ qs → length ps ≡ length xs → unnecessary ps 1 ≡ true
      → unnecessary ps (length ps - 1) ≡ b → remove_all (unnecessary_positions ps true) xs
      ≡ and_then (remove_all (pick b (suc (length qs) ∷ []) []) (p ∷ qs)) (remove_all (unnecessary_from ps 1 (length qs)))
  first_goes xs p q qs b split same t last =
      let whole : length xs ≡ suc (suc (length qs)) = ap length split in
      let count : length ps - 1 ≡ suc (length qs) = omega arith in
      let next : 1 + length qs ≡ suc (length qs) = omega arith in
      let end : unnecessary ps (suc (length qs)) ≡ b = rw (← count) last in
      let positions : unnecessary_from ps 1 (length ps - 1) ≡ unnecessary_from ps 1 (length qs) ++ pick b (suc (length qs) ∷ []) [] =
      ap (unnecessary_from ps 1) count ∙ last_judged ps 1 (length qs)
      ∙ ap (λ (k : ℕ). unnecessary_from ps 1 (length qs) ++ unnecessary_from ps k 1) next
      ∙ ap (λ (us : List ℕ). unnecessary_from ps 1 (length qs) ++ us) (one-judged ps (suc (length qs)) b end) in
      let first : remove_all (1 ∷ []) xs ≡ answered (p ∷ qs) =
      removed_one 1 xs ∙ removed_at 1 xs (omega arith) ∙ ap (λ (l : List A). answered (take 1 l ++ drop 2 l)) split in
      ap (λ (us : List ℕ). remove_all us xs) (positions_closed ps true t)
      ∙ removed_in_turn (unnecessary_from ps 1 (length ps - 1)) (1 ∷ []) xs
      ∙ ap (λ (a : Answer (List A)). and_then a (remove_all (unnecessary_from ps 1 (length ps - 1)))) first
      ∙ ap (λ (us : List ℕ). remove_all us (p ∷ qs)) positions
      ∙ removed_in_turn (unnecessary_from ps 1 (length qs)) (pick b (suc (length qs) ∷ []) []) (p ∷ qs)

  -- and then the vertex after each one judged unnecessary; the last one's would lie past the end
  pub round_shifted : (xs : List A) → length ps ≡ length xs → 2 ≤ length xs → unnecessary ps 1 ≡ true → unnecessary ps (length ps - 1) ≡ false
      → remove_all (unnecessary_positions ps true) xs ≡ answered (kept_vertices ps xs 1)
  unfolding kept_vertices remove_all
  round_shifted [] same h t last = absurd (omega arith)
  round_shifted (p ∷ []) same h t last = absurd (omega arith)
  round_shifted (p ∷ q ∷ qs) same h t last = first_goes (p ∷ q ∷ qs) p q qs false refl same t last ∙ kept_of_run ps 1 (p ∷ []) qs refl

  pub round_refused : (xs : List A) → length ps ≡ length xs → 2 ≤ length xs → unnecessary ps 1 ≡ true → unnecessary ps (length ps - 1) ≡ true
      → remove_all (unnecessary_positions ps true) xs ≡ refused 5
  round_refused [] same h t last = absurd (omega arith)
  round_refused (p ∷ []) same h t last = absurd (omega arith)
  round_refused (p ∷ q ∷ qs) same h t last =
      let past : remove_all (suc (length qs) ∷ []) (p ∷ qs) ≡ refused 5 =
      removed_one (suc (length qs)) (p ∷ qs) ∙ removed_past_end (suc (length qs)) (p ∷ qs) (omega arith) in
      first_goes (p ∷ q ∷ qs) p q qs true refl same t last ∙ ap (λ (a : Answer (List A)). and_then a (remove_all (unnecessary_from ps 1 (length qs)))) past

-- ---- the same, for code that judges vertices one by one

module _ {A : Type 0} (ps : List SphericalPoint) (xs : List A) (same : length ps ≡ length xs) (three : 3 ≤ length xs) (closed : Bool) where
  abbrev Leaves : Answer (List A) → Type 0
  Leaves a = a ≡ remove_all (unnecessary_positions ps closed) xs

  flag : (c : Bool) (a : Answer (List A)) → closed ≡ c → remove_all (unnecessary_positions ps c) xs ≡ a → Leaves a
  flag c a h e = sym (ap (λ (d : Bool). remove_all (unnecessary_positions ps d) xs) h ∙ e)

  pub left_of_open : (left : List A) → not closed ≡ true → left ≡ kept_vertices ps xs 0 → Leaves (answered left)
  left_of_open left h kept = flag false (answered left) (not-true closed h) (round_open ps xs same (omega arith) ∙ ap answered (sym kept))

  -- how the code judges vertex 1, and the last
  module _ (is_closed : not closed ≡ false) (first : Bool) (judged : first ≡ unnecessary ps 1) where
    pub left_by_first : (left : List A) → not first ≡ true → left ≡ kept_vertices ps xs 0 → Leaves (answered left)
    left_by_first left h kept =
        flag true (answered left) (not-false closed is_closed)
        (round_first_needed ps xs same (omega arith) (sym judged ∙ not-true first h) ∙ ap answered (sym kept))

    module _ (goes : not first ≡ false) (last : Bool) (judged-last : last ≡ unnecessary ps (length xs - 1)) where
      at_last : (b : Bool) → last ≡ b → unnecessary ps (length ps - 1) ≡ b
      at_last b h = rw same (sym judged-last ∙ h)

      pub left_past_end : last ≡ true → Leaves (refused 5)
      left_past_end h =
          flag true (refused 5) (not-false closed is_closed) (round_refused ps xs same (omega arith) (sym judged ∙ not-false first goes) (at_last true h))

      pub left_shifted : (left : List A) → last ≡ false → left ≡ kept_vertices ps xs 1 → Leaves (answered left)
      left_shifted left h kept =
          flag true (answered left) (not-false closed is_closed)
          (round_shifted ps xs same (omega arith) (sym judged ∙ not-false first goes) (at_last false h) ∙ ap answered (sym kept))
