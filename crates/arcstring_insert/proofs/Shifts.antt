-- Parts written one right before the other: elements moved on, the last one first, and a part written before them. Assumes nothing.
use mathlib.Core.Path.{◌≡◌, sym, ap, ap₂, ◌∙◌}
use mathlib.Core.List.{List, [], ◌∷◌, ◌++◌, append_assoc}
use Prim.Native.Nat.{ℕ, zero, suc, ◌+◌, ◌-◌, ◌≤◌, ◌<◌}
use native.Mathlib.Omega.{arith}
use lib.ListN.{length, get_or, take, drop, set, length-append}
use lib.Seq.{length-take-le, take-nil, take-append-le, take-take, drop_at, drop-cons, get_or-take}
use lib.Ieee.{Float}
use Rattle.sphericalpoint.specs.declared.SphericalPoint.{SphericalPoint}
use Rattle.arcstring.specs.Splice.{splice}
use Rattle.arcstring.proofs.Splices.{take-splice, set-splice}

abbrev pub floats : SphericalPoint → List Float
floats p = p.x ∷ p.y ∷ p.z ∷ []

module _ {A : Type 0} where
  pub drop-take : (c n : ℕ) (l : List A) → drop c (take (c + n) l) ≡ take n (drop c l)
  drop-take zero n l = let e : 0 + n ≡ n = omega arith in rw e
  drop-take (suc c) n [] = let e : suc c + n ≡ suc (c + n) = omega arith in rw e (sym (take-nil n))
  drop-take (suc c) n (x ∷ l) = let e : suc c + n ≡ suc (c + n) = omega arith in rw e (drop-take c n l)

  -- a part written right before another is one part
  splice_before : (old : List A) (at : ℕ) (ys xs : List A) (next : ℕ) → next ≡ at + length ys → next ≤ length old →
      splice (splice old next xs) at ys ≡ splice old at (ys ++ xs)
  unfolding splice
  splice_before old at ys xs next e h =
      let tail = xs ++ drop (next + length xs) old in
      let t : take at (take next old ++ tail) ≡ take at old =
      take-append-le at (take next old) tail (omega (arith, length-take-le next old h)) ∙ take-take at next old (omega arith) in
      let d : drop (at + length ys) (take next old ++ tail) ≡ tail = drop_at (take next old) tail (at + length ys) (length-take-le next old h ∙ e) in
      let m : next + length xs ≡ at + length (ys ++ xs) = omega (arith, length-append ys xs) in
      rw (t, d) (ap (λ (l : List A). take at old ++ l) (sym (append_assoc ys xs (drop (next + length xs) old)) ∙ ap (λ (j : ℕ). (ys ++ xs) ++ drop j old) m))

  -- so elements that stand past a part, once that is written there
  pub put_before_moved : (old mid last : List A) (at next : ℕ) (part run : List A) → next ≡ at + length part → next ≤ length old
      → mid ≡ splice old next run → last ≡ splice mid at part → last ≡ splice old at (part ++ run)
  put_before_moved old mid last at next part run e room before after =
      after ∙ ap (λ (l : List A). splice l at part) before ∙ splice_before old at part run next e room

  -- one element more moved `by` places on: the one before those that were
  pub moved_one_more : (old mid : List A) (from to by i : ℕ) (x : A) → from < i → i ≤ to → to + by ≤ length old → length mid ≡ length old
      → mid ≡ splice old (i + by) (take (to - i) (drop i old)) → x ≡ get_or mid (i - 1) x
      → set mid (i - 1 + by) x ≡ splice old (i - 1 + by) (take (to - (i - 1)) (drop (i - 1) old))
  moved_one_more old mid from to by i x some within room long before read =
      let run = take (to - i) (drop i old) in
      let stays : get_or mid (i - 1) x ≡ get_or old (i - 1) x =
      sym (get_or-take (i + by) mid (i - 1) x (omega arith))
      ∙ ap (λ (l : List A). get_or l (i - 1) x) (ap (take (i + by)) before ∙ take-splice old (i + by) run (omega arith))
      ∙ get_or-take (i + by) old (i - 1) x (omega arith) in
      let n : to - (i - 1) ≡ suc (to - i) = omega arith in
      let s : suc (i - 1) ≡ i = omega arith in
      let d : drop (i - 1) old ≡ x ∷ drop i old =
      drop-cons old (i - 1) x (omega arith) ∙ ap₂ (λ (y : A) (j : ℕ). y ∷ drop j old) (sym (read ∙ stays)) s in
      set-splice mid (i - 1 + by) x (omega (arith, long))
      ∙ ap (λ (l : List A). splice l (i - 1 + by) (x ∷ [])) before
      ∙ splice_before old (i - 1 + by) (x ∷ []) run (i + by) (omega arith) (omega arith)
      ∙ sym (ap₂ (λ (m : ℕ) (l : List A). splice old (i - 1 + by) (take m l)) n d)
