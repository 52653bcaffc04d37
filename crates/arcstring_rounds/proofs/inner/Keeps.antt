-- The walk that keeps elements: its start, one passed over, one kept, and its end. Assumes nothing.
use mathlib.Core.Path.{◌≡◌, sym, ap, ap₂, ◌∙◌}
use mathlib.Core.Bool.{Bool, true, false, not}
use mathlib.Core.List.{List, [], ◌∷◌, ◌++◌, append_assoc, append-nil}
use Prim.Native.Nat.{ℕ, suc, ◌+◌, ◌≤◌, ◌<◌}
use native.Mathlib.Numerals.{add-one}
use native.Mathlib.Omega.{arith}
use lib.ListN.{length, get_or, take, drop, set, drop_of_length-le}
use lib.Seq.{take-suc, take-suc-set, drop-cons}
use borrow.Author.Tests.{not-true, not-false}
use Rattle.sphericalpoint.specs.declared.SphericalPoint.{SphericalPoint}
use Rattle.arcstring_check.specs.Answer.{pick}
use Rattle.arcstring_rounds.specs.Rounds.{unnecessary}
use Rattle.arcstring_rounds.specs.Kept.{kept_from, kept_vertices}

-- the points ps judge
module _ {A : Type 0} (none : A) (ps : List SphericalPoint) (xs : List A) where
  -- the first is kept, and the rest is to come
  pub keep-start : (skip : ℕ) (old : List A) → 1 ≤ length xs → 1 ≤ length old
      → take 1 (set old 0 (get_or xs 0 none)) ++ kept_from ps 1 (drop (1 + skip) xs) ≡ kept_vertices ps xs skip
  unfolding kept_vertices
  keep-start skip old h l =
      ap (λ (ys : List A). ys ++ kept_from ps 1 (drop (1 + skip) xs)) (take-suc-set old 0 (get_or xs 0 none) l ∙ sym (take-suc xs 0 none h))

  module _ (k skip : ℕ) where
    abbrev rest : List A
    rest = kept_from ps (k + 1) (drop (k + 1 + skip) xs)

    at_element : (b : Bool) → k + skip < length xs → unnecessary ps k ≡ b → kept_from ps k (drop (k + skip) xs) ≡ pick b rest (get_or xs (k + skip) none ∷ rest)
    unfolding kept_from
    at_element b h t =
        let e : suc (k + skip) ≡ k + 1 + skip = omega arith in
        ap (kept_from ps k) (drop-cons xs (k + skip) none h ∙ ap (λ (i : ℕ). get_or xs (k + skip) none ∷ drop i xs) e)
        ∙ ap (λ (c : Bool). pick c rest (get_or xs (k + skip) none ∷ rest)) t

    -- what is kept before it is `kept` elements of `old`, and after it `kept'` of `out`; b is how the code judges it
    module _ (whole : List A) (kept kept' : ℕ) (old out : List A) (b : Bool) (below : k + skip < length xs) (test : b ≡ unnecessary ps k)
        (before : take kept old ++ kept_from ps k (drop (k + skip) xs) ≡ whole) where
      pub pass_over : not b ≡ false → out ≡ old → kept' ≡ kept → take kept' out ++ rest ≡ whole
      pass_over t same count =
          ap₂ (λ (m : ℕ) (w : List A). take m w ++ rest) count same
          ∙ ap (λ (ys : List A). take kept old ++ ys) (sym (at_element true below (sym test ∙ not-false b t)))
          ∙ before

      pub keep_on : not b ≡ true → kept < length old → out ≡ set old kept (get_or xs (k + skip) none) → kept' ≡ kept + 1 → take kept' out ++ rest ≡ whole
      keep_on t room same count =
          let x = get_or xs (k + skip) none in
          ap₂ (λ (m : ℕ) (w : List A). take m w ++ rest) (count ∙ add-one kept) same
          ∙ ap (λ (ys : List A). ys ++ rest) (take-suc-set old kept x room)
          ∙ append_assoc (take kept old) (x ∷ []) rest
          ∙ ap (λ (ys : List A). take kept old ++ ys) (sym (at_element false below (sym test ∙ not-true b t)))
          ∙ before

    pub keep_end : (front whole : List A) → length xs ≤ k + skip → front ++ kept_from ps k (drop (k + skip) xs) ≡ whole → front ≡ whole
    unfolding kept_from
    keep_end front whole h before =
        sym (append-nil front) ∙ ap (λ (ys : List A). front ++ kept_from ps k ys) (sym (drop_of_length-le xs h)) ∙ before
