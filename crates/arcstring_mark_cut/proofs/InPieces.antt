-- Laws of pieces that stand one after another in one list: lists of them after one another, the piece at a place, how many there are, and two in the place of
-- one. Assumes nothing.
use mathlib.Core.Path.{◌≡◌, refl, sym, ap, ap₂, ◌∙◌}
use mathlib.Core.List.{List, [], ◌∷◌, ◌++◌, map, append_assoc}
use Prim.Native.Nat.{ℕ, suc, ◌+◌, ◌≤◌, ◌<◌}
use native.Mathlib.Numerals.{add-one}
use native.Mathlib.Omega.{arith}
use lib.ListN.{length, get_or, take, drop, length-drop}
use lib.Seq.{length-take-le, take-length, take-take, drop-drop, take_at, drop_at, get_or_at, split_at}
use Rattle.arcstring_insert.proofs.Shifts.{drop-take}
use Rattle.arcstring_piece.specs.Pieces.{sum}
use Rattle.arcstring_piece.proofs.inner.replace.Sums.{sum_split}
use Rattle.arcstring_piece.proofs.inner.replace.Cuts.{replaced}
use Rattle.arcstring_mark_cut.specs.CutAtMarks.{together}
use Rattle.arcstring_mark_cut.specs.Standing.{in_pieces}

module _ {A : Type 0} where
  -- ---- pieces after one another

  pub in_append : (cs ds : List ℕ) (xs : List A) → in_pieces (cs ++ ds) xs ≡ in_pieces cs xs ++ in_pieces ds (drop (sum cs) xs)
  unfolding in_pieces
  in_append [] ds xs = refl
  in_append (c ∷ cs) ds xs =
      ap (λ (xss : List (List A)). take c xs ∷ xss)
      (in_append cs ds (drop c xs) ∙ ap (λ (ys : List A). in_pieces cs (drop c xs) ++ in_pieces ds ys) (drop-drop (sum cs) c xs))

  -- only as many elements as the counts say are looked at
  in_first : (cs : List ℕ) (xs : List A) → in_pieces cs (take (sum cs) xs) ≡ in_pieces cs xs
  unfolding in_pieces
  in_first [] xs = refl
  in_first (c ∷ cs) xs =
      ap₂ (λ (ys : List A) (xss : List (List A)). ys ∷ xss) (take-take c (c + sum cs) xs (omega arith))
      (ap (in_pieces cs) (drop-take c (sum cs) xs) ∙ in_first cs (drop c xs))

  pub in_same : (cs : List ℕ) (xs ys : List A) → take (sum cs) xs ≡ take (sum cs) ys → in_pieces cs xs ≡ in_pieces cs ys
  in_same cs xs ys h = sym (in_first cs xs) ∙ ap (in_pieces cs) h ∙ in_first cs ys

  pub in_length : (cs : List ℕ) (xs : List A) → length (in_pieces cs xs) ≡ length cs
  unfolding in_pieces
  in_length [] xs = refl
  in_length (c ∷ cs) xs = ap suc (in_length cs (drop c xs))

  -- ---- how many elements

  pub in_counts : (cs : List ℕ) (xs : List A) → sum cs ≤ length xs → map length (in_pieces cs xs) ≡ cs
  unfolding in_pieces
  in_counts [] xs h = refl
  in_counts (c ∷ cs) xs h = ap₂ ◌∷◌ (length-take-le c xs (omega arith)) (in_counts cs (drop c xs) (rw length-drop (omega arith)))

  pub in_together : (cs : List ℕ) (xs : List A) → sum cs ≤ length xs → together (in_pieces cs xs) ≡ sum cs
  unfolding in_pieces
  in_together [] xs h = refl
  in_together (c ∷ cs) xs h = omega (arith, length-take-le c xs (omega arith), in_together cs (drop c xs) (rw length-drop (omega arith)))

  pub together-append : (xss yss : List (List A)) → together (xss ++ yss) ≡ together xss + together yss
  together-append [] yss = omega arith
  together-append (xs ∷ xss) yss = omega (arith, together-append xss yss)

  -- ---- the piece at place k

  module _ (cs : List ℕ) (xs : List A) (k : ℕ) (h : k < length cs) where
    abbrev at : ℕ
    at = sum (take k cs)

    abbrev old : ℕ
    old = get_or cs k 0

    in_at : in_pieces cs xs ≡ in_pieces (take k cs) xs ++ (take old (drop at xs) ∷ in_pieces (drop (k + 1) cs) (drop (at + old) xs))
    unfolding in_pieces
    in_at =
        let c : cs ≡ take k cs ++ (old ∷ drop (k + 1) cs) = rw add-one (split_at cs k 0 h) in
        ap (λ (l : List ℕ). in_pieces l xs) c
        ∙ in_append (take k cs) (old ∷ drop (k + 1) cs) xs
        ∙ ap (λ (ys : List A). in_pieces (take k cs) xs ++ (take old (drop at xs) ∷ in_pieces (drop (k + 1) cs) ys)) (drop-drop old at xs)

    front_length : length (in_pieces (take k cs) xs) ≡ k
    front_length = in_length (take k cs) xs ∙ length-take-le k cs (omega arith)

    pub in_before : take k (in_pieces cs xs) ≡ in_pieces (take k cs) xs
    in_before = ap (take k) in_at ∙ take_at (in_pieces (take k cs) xs) _ k front_length

    pub in_there : get_or (in_pieces cs xs) k [] ≡ take old (drop at xs)
    in_there = ap (λ (xss : List (List A)). get_or xss k []) in_at ∙ get_or_at (in_pieces (take k cs) xs) _ _ [] k front_length

    pub in_from : drop k (in_pieces cs xs) ≡ take old (drop at xs) ∷ drop (k + 1) (in_pieces cs xs)
    in_from =
        let there = take old (drop at xs) in
        let rest = in_pieces (drop (k + 1) cs) (drop (at + old) xs) in
        let d : drop k (in_pieces cs xs) ≡ there ∷ rest = ap (drop k) in_at ∙ drop_at (in_pieces (take k cs) xs) (there ∷ rest) k front_length in
        d ∙ ap (λ (xss : List (List A)). there ∷ xss) (sym (ap (drop 1) d) ∙ drop-drop 1 k (in_pieces cs xs))

    pub in_after : drop (k + 1) (in_pieces cs xs) ≡ in_pieces (drop (k + 1) cs) (drop (at + old) xs)
    in_after =
        let there = take old (drop at xs) in
        let rest = in_pieces (drop (k + 1) cs) (drop (at + old) xs) in
        sym (drop-drop 1 k (in_pieces cs xs))
        ∙ ap (drop 1) (ap (drop k) in_at ∙ drop_at (in_pieces (take k cs) xs) (there ∷ rest) k front_length)

    -- ---- two pieces in its place

    module _ (enough : sum cs ≤ length xs) where
      abbrev past : ℕ
      past = at + old

      abbrev rest : ℕ
      rest = sum (drop (k + 1) cs)

      pub in_all : past + rest ≡ sum cs
      in_all =
          let e : sum (take (length cs) cs) ≡ at + old + sum (drop (k + 1) (take (length cs) cs)) = sum_split cs (length cs) k h (omega arith) in
          sym (rw take-length at e)

      -- us and vs stand in ys where the piece stood in xs
      pub in_two : (us vs ys : List A) → ys ≡ take at xs ++ ((us ++ vs) ++ take rest (drop past xs))
          → in_pieces (replaced cs k (length us) (length vs)) ys ≡ take k (in_pieces cs xs) ++ (us ∷ vs ∷ drop (k + 1) (in_pieces cs xs))
      unfolding in_pieces
      in_two us vs ys e =
          let run = take rest (drop past xs) in
          let front : length (take at xs) ≡ at = length-take-le at xs (omega (arith, in_all)) in
          let d : drop at ys ≡ us ++ (vs ++ run) = ap (drop at) e ∙ drop_at (take at xs) _ at front ∙ append_assoc us vs run in
          let d1 : drop (length us) (drop at ys) ≡ vs ++ run = ap (drop (length us)) d ∙ drop_at us _ (length us) refl in
          let d2 : drop (length vs) (drop (length us) (drop at ys)) ≡ run = ap (drop (length vs)) d1 ∙ drop_at vs _ (length vs) refl in
          let t1 : take (length us) (drop at ys) ≡ us = ap (take (length us)) d ∙ take_at us _ (length us) refl in
          let t2 : take (length vs) (drop (length us) (drop at ys)) ≡ vs = ap (take (length vs)) d1 ∙ take_at vs _ (length vs) refl in
          let before : in_pieces (take k cs) ys ≡ take k (in_pieces cs xs) =
          in_same (take k cs) ys xs (ap (take at) e ∙ take_at (take at xs) _ at front) ∙ sym in_before in
          let after : in_pieces (drop (k + 1) cs) (drop (length vs) (drop (length us) (drop at ys))) ≡ drop (k + 1) (in_pieces cs xs) =
          in_same (drop (k + 1) cs) _ (drop past xs) (ap (take rest) d2 ∙ take-take rest rest (drop past xs) (omega arith)) ∙ sym in_after in
          in_append (take k cs) (length us ∷ length vs ∷ drop (k + 1) cs) ys ∙ (λ i. before i ++ (t1 i ∷ t2 i ∷ after i))
