-- One float more in a list that is kept: the first n of a list after a store, and nothing more past 1,025 points. Assumes nothing.
use mathlib.Core.Path.{◌≡◌, sym, ap, ◌∙◌}
use mathlib.Core.Bool.{Bool}
use mathlib.Core.List.{List, [], ◌∷◌, ◌++◌}
use Prim.Native.Nat.{ℕ, ◌+◌, ◌≤◌, ◌<◌}
use native.Mathlib.Omega.{arith}
use native.Mathlib.Numerals.{add-one}
use lib.Dec.{ltb}
use lib.ListN.{length, take, set}
use lib.Seq.{length-take-le, take-suc-set}
use lib.Ieee.{Float}
use borrow.Author.Tests.{lt-ltb, le-ltb}
use Rattle.arcstring_check.specs.Answer.{pick}
use Rattle.textform.specs.Kept.{floats_kept, in_place, keep}

module _ (x : Float) (l : List Float) where
  by_test : {t : Bool} → ltb (length l) floats_kept ≡ t → pick t (l ++ (in_place x ∷ [])) l ≡ keep x l
  unfolding keep
  by_test e = sym (ap (λ (t : Bool). pick t (l ++ (in_place x ∷ [])) l) e)

  -- a full list stays
  pub keep_full : floats_kept ≤ length l → l ≡ keep x l
  keep_full h = by_test (le-ltb (length l) floats_kept h)

  -- any other has one more at its end
  pub keep_more : length l < floats_kept → l ++ (in_place x ∷ []) ≡ keep x l
  keep_more h = by_test (lt-ltb (length l) floats_kept h)

module _ (x : Float) (l : List Float) (n : ℕ) (whole : length l ≡ floats_kept) where
  pub kept_full : n ≡ floats_kept → take n l ≡ keep x (take n l)
  kept_full h = keep_full x (take n l) (omega (arith, length-take-le n l (omega arith)))

  pub kept_more : (y : Float) → n < floats_kept → y ≡ in_place x → take (n + 1) (set l n y) ≡ keep x (take n l)
  kept_more y h e =
      ap (λ (k : ℕ). take k (set l n y)) (add-one n)
      ∙ take-suc-set l n y (omega arith)
      ∙ ap (λ (z : Float). take n l ++ (z ∷ [])) e
      ∙ keep_more x (take n l) (omega (arith, length-take-le n l (omega arith)))
