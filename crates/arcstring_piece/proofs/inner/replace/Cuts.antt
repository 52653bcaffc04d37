-- Laws of a cut: the lists with two pieces in the place of one, the pieces that then stand there, and how many points they have. Assumes nothing.
use mathlib.Core.Path.{◌≡◌, sym, ap, ap₂, ◌∙◌}
use mathlib.Core.Bool.{Bool, true}
use mathlib.Core.List.{List, ◌∷◌, ◌++◌, append_assoc}
use Prim.Native.Nat.{ℕ, ◌+◌, ◌-◌, ◌≤◌, ◌<◌}
use native.Mathlib.Omega.{arith}
use lib.ListN.{length, get_or, take, drop, length-drop, length-append}
use lib.Seq.{length-take-le, take-length, take-take, take_at, drop_at}
use Rattle.arcstring.specs.declared.inner.vertex.Vertex.{Vertex}
use Rattle.arcstring.specs.Points.{StringOf}
use Rattle.arcstring.specs.Splice.{splice}
use Rattle.arcstring.proofs.Splices.{take_past_splice}
use Rattle.std.proofs.lemmas.List.{drop-take}
use Rattle.arcstring_piece.specs.Pieces.{piece, pieces_of, sum, all_some}
use Rattle.arcstring.specs.Written.{points_in}
use Rattle.arcstring_piece.proofs.inner.replace.Sums.{sum-append, sum_split, some_append, some_cons, some_take, some_drop}
use Rattle.arcstring_piece.proofs.inner.replace.Pieces.{points-append, pieces_append, pieces_same, pieces_before, pieces_after, pieces_points}

-- ---- two items in the place of item k

-- a list without item k and with x and y in its place
abbrev pub replaced : {A : Type 0} → List A → ℕ → A → A → List A
replaced l k x y = take k l ++ (x ∷ y ∷ drop (k + 1) l)

pub first_replaced : {A : Type 0} (l l' : List A) (m k : ℕ) (x y : A) → k < m → m ≤ length l → l' ≡ splice l k (x ∷ y ∷ take (m - (k + 1)) (drop (k + 1) l)) →
    take (m + 1) l' ≡ replaced (take m l) k x y
first_replaced {A} l l' m k x y h room e =
    let rest = take (m - (k + 1)) (drop (k + 1) l) in
    let n : length rest ≡ m - (k + 1) = length-take-le (m - (k + 1)) (drop (k + 1) l) (rw length-drop (omega arith)) in
    let j : m + 1 ≡ k + length (x ∷ y ∷ rest) = omega arith in
    let i : m ≡ (k + 1) + (m - (k + 1)) = omega arith in
    let d : drop (k + 1) (take m l) ≡ rest = ap (λ (z : ℕ). drop (k + 1) (take z l)) i ∙ drop-take (k + 1) (m - (k + 1)) l in
    ap₂ take j e ∙ take_past_splice l k (x ∷ y ∷ rest) (omega arith) ∙ ap₂ (λ (a b : List A). a ++ (x ∷ y ∷ b)) (sym (take-take k m l (omega arith))) (sym d)

pub replaced-length : {A : Type 0} (l : List A) (k : ℕ) (x y : A) → k < length l → length (replaced l k x y) ≡ length l + 1
replaced-length l k x y h =
    length-append (take k l) (x ∷ y ∷ drop (k + 1) l) ∙ omega (arith, length-take-le k l (omega arith), length-drop (k + 1) l)

pub replaced-sum : (l : List ℕ) (k x y : ℕ) → sum (replaced l k x y) ≡ sum (take k l) + (x + y) + sum (drop (k + 1) l)
replaced-sum l k x y = sum-append (take k l) (x ∷ y ∷ drop (k + 1) l) ∙ omega arith

pub replaced_some : (l : List ℕ) (k x y : ℕ) → 1 ≤ x → 1 ≤ y → all_some l ≡ true → all_some (replaced l k x y) ≡ true
replaced_some l k x y a b s =
    some_append (take k l) (x ∷ y ∷ drop (k + 1) l) (some_take k l s)
    (some_cons x (y ∷ drop (k + 1) l) a (some_cons y (drop (k + 1) l) b (some_drop (k + 1) l s)))

-- ---- two pieces in the place of piece k

module _ (cs : List ℕ) (fs : List Bool) (ws : List Vertex) (k : ℕ) (same : length cs ≡ length fs) (h : k < length cs) (enough : sum cs ≤ length ws) where
  abbrev at : ℕ
  at = sum (take k cs)

  abbrev past : ℕ
  past = at + get_or cs k 0

  abbrev rest : ℕ
  rest = sum (drop (k + 1) cs)

  in_all : past + rest ≤ length ws
  in_all = let e : sum (take (length cs) cs) ≡ at + get_or cs k 0 + sum (drop (k + 1) (take (length cs) cs)) = sum_split cs (length cs) k h (omega arith) in
      omega (arith, rw take-length at e)

  pub cut_points : (s t : StringOf Vertex) →
      points_in (take k (pieces_of cs fs ws) ++ (s ∷ t ∷ drop (k + 1) (pieces_of cs fs ws))) ≡ at + (length s.vertices + length t.vertices) + rest
  cut_points s t =
      let before : points_in (take k (pieces_of cs fs ws)) ≡ at =
      ap points_in (pieces_before cs fs ws k same h)
      ∙ pieces_points (take k cs) (take k fs) ws (length-take-le k cs (omega arith) ∙ sym (length-take-le k fs (omega arith))) (omega (arith, in_all)) in
      let after : points_in (drop (k + 1) (pieces_of cs fs ws)) ≡ rest =
      ap points_in (pieces_after cs fs ws k same h)
      ∙ pieces_points (drop (k + 1) cs) (drop (k + 1) fs) (drop past ws)
      (length-drop (k + 1) cs ∙ ap (λ (n : ℕ). n - (k + 1)) same ∙ sym (length-drop (k + 1) fs)) (rw length-drop (omega (arith, in_all))) in
      points-append (take k (pieces_of cs fs ws)) (s ∷ t ∷ drop (k + 1) (pieces_of cs fs ws)) ∙ omega arith

  pub cut_pieces : (x y : ℕ) (f g : Bool) (us vs tail xs : List Vertex) → length us ≡ x → length vs ≡ y →
      xs ≡ take at ws ++ ((us ++ vs) ++ (take rest (drop past ws) ++ tail)) →
      pieces_of (replaced cs k x y) (replaced fs k f g) xs
      ≡ take k (pieces_of cs fs ws) ++ (piece us f ∷ piece vs g ∷ drop (k + 1) (pieces_of cs fs ws))
  unfolding pieces_of
  cut_pieces x y f g us vs tail xs la lb e =
      let run = take rest (drop past ws) in
      let front : length (take at ws) ≡ at = length-take-le at ws (omega (arith, in_all)) in
      let room : length run ≡ rest = length-take-le rest (drop past ws) (rw length-drop (omega (arith, in_all))) in
      let d : drop at xs ≡ us ++ (vs ++ (run ++ tail)) = ap (drop at) e ∙ drop_at (take at ws) _ at front ∙ append_assoc us vs (run ++ tail) in
      let d1 : drop x (drop at xs) ≡ vs ++ (run ++ tail) = ap (drop x) d ∙ drop_at us _ x la in
      let d2 : drop y (drop x (drop at xs)) ≡ run ++ tail = ap (drop y) d1 ∙ drop_at vs _ y lb in
      let t1 : take x (drop at xs) ≡ us = ap (take x) d ∙ take_at us _ x la in
      let t2 : take y (drop x (drop at xs)) ≡ vs = ap (take y) d1 ∙ take_at vs _ y lb in
      let before : pieces_of (take k cs) (take k fs) xs ≡ take k (pieces_of cs fs ws) =
      pieces_same (take k cs) (take k fs) xs ws (ap (take at) e ∙ take_at (take at ws) _ at front) ∙ sym (pieces_before cs fs ws k same h) in
      let after : pieces_of (drop (k + 1) cs) (drop (k + 1) fs) (drop y (drop x (drop at xs))) ≡ drop (k + 1) (pieces_of cs fs ws) =
      pieces_same (drop (k + 1) cs) (drop (k + 1) fs) _ (drop past ws) (ap (take rest) d2 ∙ take_at run tail rest room)
      ∙ sym (pieces_after cs fs ws k same h) in
      pieces_append (take k cs) (take k fs) (x ∷ y ∷ drop (k + 1) cs) (f ∷ g ∷ drop (k + 1) fs) xs
      (length-take-le k cs (omega arith) ∙ sym (length-take-le k fs (omega arith)))
      ∙ (λ i. before i ++ (piece (t1 i) f ∷ piece (t2 i) g ∷ after i))
