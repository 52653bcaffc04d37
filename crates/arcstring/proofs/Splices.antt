-- Laws of `splice`: its length, what it leaves, pieces written one after the other, and stores as a splice. Assumes nothing.
use mathlib.Core.Path.{◌≡◌, sym, ap, ◌∙◌}
use mathlib.Core.List.{List, [], ◌∷◌, ◌++◌, append_assoc}
use Prim.Native.Nat.{ℕ, suc, ◌+◌, ◌≤◌, ◌<◌}
use native.Mathlib.Numerals.{add-one}
use native.Mathlib.Omega.{arith}
use lib.ListN.{length, get_or, take, drop, set, length-append, length-drop, take-append-drop}
use lib.Seq.{length-take-le, take_at, take-suc, get_or-drop, drop-append-add, drop-drop, set_split, sets-eq}
use Rattle.arcstring.specs.Splice.{splice}

module _ {A : Type 0} where
  -- written into a list that it fits, a part leaves the length
  pub length-splice : (old : List A) (at : ℕ) (new : List A) → at + length new ≤ length old → length (splice old at new) ≡ length old
  unfolding splice
  length-splice old at new h =
      let t : length (take at old) ≡ at = length-take-le at old (omega arith) in
      simp (length-append, length-drop, t) (omega arith)

  pub splice-start : (old new : List A) → splice old 0 new ≡ new ++ drop (length new) old
  unfolding splice
  splice-start old new = let e : 0 + length new ≡ length new = omega arith in rw e

  pub splice_front : (old : List A) (n : ℕ) (new : List A) → length new ≡ n → splice old 0 new ≡ new ++ drop n old
  splice_front old n new e = splice-start old new ∙ ap (λ (m : ℕ). new ++ drop m old) e

  pub splice_nothing : (old : List A) (at : ℕ) → splice old at [] ≡ old
  unfolding splice
  splice_nothing old at = let e : at + 0 ≡ at = omega arith in rw e (take-append-drop at old)

  -- what lies before the part, and what lies past it, stays
  pub take-splice : (old : List A) (at : ℕ) (new : List A) → at ≤ length old → take at (splice old at new) ≡ take at old
  unfolding splice
  take-splice old at new h = take_at (take at old) (new ++ drop (at + length new) old) at (length-take-le at old h)

  pub take_past_splice : (old : List A) (at : ℕ) (new : List A) → at ≤ length old → take (at + length new) (splice old at new) ≡ take at old ++ new
  unfolding splice
  take_past_splice old at new h =
      rw (← append_assoc (take at old) new (drop (at + length new) old))
      (take_at (take at old ++ new) _ (at + length new) (length-append (take at old) new ∙ ap (λ (n : ℕ). n + length new) (length-take-le at old h)))

  -- k elements past the part and on
  pub drop_past_splice : (old : List A) (at : ℕ) (new : List A) (k : ℕ) → at ≤ length old → drop (at + length new + k) (splice old at new) ≡ drop
      (at + length new + k) old
  unfolding splice
  drop_past_splice old at new k h =
      let t : length (take at old ++ new) ≡ at + length new = length-append (take at old) new ∙ ap (λ (n : ℕ). n + length new) (length-take-le at old h) in
      rw (← append_assoc (take at old) new (drop (at + length new) old))
      (ap (λ (n : ℕ). drop (n + k) ((take at old ++ new) ++ drop (at + length new) old)) (sym t) ∙ drop-append-add (take at old ++ new) _ k
      ∙ drop-drop k (at + length new) old)

  -- a part written right after another is one part
  joined : (old mid : List A) (at : ℕ) (xs ys : List A) → take (at + length xs) mid ≡ take at old ++ xs
      → drop (at + length xs + length ys) mid ≡ drop (at + length xs + length ys) old →
      splice mid (at + length xs) ys ≡ splice old at (xs ++ ys)
  unfolding splice
  joined old mid at xs ys t d =
      let e : at + (length xs + length ys) ≡ at + length xs + length ys = omega arith in
      rw (t, d, length-append, e, append_assoc (take at old) xs, append_assoc xs ys)

  pub splice-next : (old : List A) (at : ℕ) (xs : List A) (next : ℕ) (ys : List A) → at ≤ length old → next ≡ at + length xs →
      splice (splice old at xs) next ys ≡ splice old at (xs ++ ys)
  splice-next old at xs next ys h e =
      ap (λ (n : ℕ). splice (splice old at xs) n ys) e ∙ joined old (splice old at xs) at xs ys (take_past_splice old at xs h)
      (drop_past_splice old at xs (length ys) h)

  -- the same of the lists that two calls leave
  pub spliced_next : (old mid last : List A) (at : ℕ) (xs : List A) (next : ℕ) (ys : List A) → mid ≡ splice old at xs → last ≡ splice mid next ys
      → at ≤ length old → next ≡ at + length xs →
      last ≡ splice old at (xs ++ ys)
  spliced_next old mid last at xs next ys first second h e =
      second ∙ ap (λ (l : List A). splice l next ys) first ∙ splice-next old at xs next ys h e

  -- one store, and three in a row
  pub set-splice : (old : List A) (at : ℕ) (x : A) → at < length old → set old at x ≡ splice old at (x ∷ [])
  unfolding splice
  set-splice old at x h = rw add-one (set_split old at x h)

  pub sets_splice : (old : List A) (at : ℕ) (x y z : A) → at + 3 ≤ length old →
      set (set (set old at x) (at + 1) y) (at + 2) z ≡ splice old at (x ∷ y ∷ z ∷ [])
  unfolding splice
  sets_splice old at x y z h =
      let e1 : at + 1 ≡ suc at = add-one at in
      let e2 : at + 2 ≡ suc (suc at) = omega arith in
      rw (e1, e2) (sets-eq (x ∷ y ∷ z ∷ []) old at h ∙ append_assoc (take at old) (x ∷ y ∷ z ∷ []) (drop (at + 3) old))

  -- one store right after a part
  pub set_next : (old out : List A) (at : ℕ) (done : List A) (i : ℕ) (x : A) → out ≡ splice old at done → length done ≡ i → at + i < length old
      → set out (at + i) x ≡ splice old at (done ++ (x ∷ []))
  set_next old out at done i x before count room =
      let l : length out ≡ length old = ap length before ∙ length-splice old at done (omega arith) in
      spliced_next old out (set out (at + i) x) at done (at + i) (x ∷ []) before (set-splice out (at + i) x (omega arith)) (omega arith) (omega arith)

  -- one element more of a part of a list, copied over a part of another
  pub copied_one_more : (list old out : List A) (from i to : ℕ) (x : A) → from + i < length list → to + i < length old
      → out ≡ splice old to (take i (drop from list)) → x ≡ get_or list (from + i) x → set out (to + i) x ≡ splice old to (take (i + 1) (drop from list))
  copied_one_more list old out from i to x known room before read =
      let run = drop from list in
      let l : i < length run = rw length-drop (omega arith) in
      let more : take (i + 1) run ≡ take i run ++ (x ∷ []) =
      rw add-one (take-suc run i x l) ∙ ap (λ (y : A). take i run ++ (y ∷ [])) (get_or-drop from list i x ∙ sym read) in
      set_next old out to (take i run) i x before (length-take-le i run (omega arith)) room ∙ ap (splice old to) (sym more)

  pub push_next : (old out : List A) (done : List A) (i : ℕ) (x : A) → out ≡ splice old 0 done → length done ≡ i → i < length old
      → set out i x ≡ splice old 0 (done ++ (x ∷ []))
  push_next old out done i x before count room =
      let e : 0 + i ≡ i = omega arith in
      ap (λ (k : ℕ). set out k x) (sym e) ∙ set_next old out 0 done i x before count (omega arith)
