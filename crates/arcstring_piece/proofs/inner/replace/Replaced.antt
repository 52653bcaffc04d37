-- What stands in a part of a list made something else: a run of items, and one item made two. Assumes nothing.
use mathlib.Core.Path.{◌≡◌, ap, ap₂, ◌∙◌}
use mathlib.Core.List.{List, [], ◌++◌, ◌∷◌, append_assoc}
use Prim.Native.Nat.{ℕ, ◌+◌, ◌≤◌, ◌-◌, ◌<◌}
use native.Mathlib.Numerals.{add-one}
use native.Mathlib.Omega.{arith}
use lib.ListN.{length, take, drop, length-drop, set}
use lib.Seq.{length-take-le, sets-eq}
use Rattle.arcstring.specs.Splice.{splice}
use Rattle.arcstring.proofs.Splices.{take_past_splice}
use Rattle.arcstring_insert.proofs.Shifts.{put_before_moved}

module _ {A : Type 0} where
  pub run_replaced : (work fresh mid last : List A) (at past size rest all : ℕ) → past + rest ≤ length work → all ≤ length fresh
      → all ≡ size + rest → mid ≡ splice fresh size (take rest (drop past work)) → last ≡ splice work at (take all mid)
      → last ≡ splice work at (take size fresh ++ take rest (drop past work))
  run_replaced work fresh mid last at past size rest all known room both first second =
      let run = take rest (drop past work) in
      let l : length run ≡ rest = length-take-le rest (drop past work) (rw length-drop (omega arith)) in
      let n : all ≡ size + length run = omega arith in
      second ∙ ap (splice work at) (ap₂ take n first ∙ take_past_splice fresh size run (omega arith))

  two_set : (l : List A) (k : ℕ) (x y : A) → k + 2 ≤ length l → set (set l k x) (k + 1) y ≡ splice l k (x ∷ y ∷ [])
  unfolding splice
  two_set l k x y h =
      ap (λ (j : ℕ). set (set l k x) j y) (add-one k) ∙ sets-eq (x ∷ y ∷ []) l k h ∙ append_assoc (take k l) (x ∷ y ∷ []) (drop (k + 2) l)

  -- two items put where one stood, once those after it went one place further
  pub two_put : (old moved : List A) (m k : ℕ) (x y : A) → k < m → m < length old → length moved ≡ length old
      → moved ≡ splice old (k + 1 + 1) (take (m - (k + 1)) (drop (k + 1) old))
      → set (set moved k x) (k + 1) y ≡ splice old k (x ∷ y ∷ take (m - (k + 1)) (drop (k + 1) old))
  two_put old moved m k x y h room long e =
      put_before_moved old moved _ k (k + 1 + 1) (x ∷ y ∷ []) _ (omega arith) (omega arith) e (two_set moved k x y (omega arith))
