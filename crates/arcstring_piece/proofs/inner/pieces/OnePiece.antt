-- A string that was copied to the start of lists is the one piece there. Assumes nothing.
use mathlib.Core.Path.{◌≡◌, sym, ap, ap₂, ◌∙◌}
use mathlib.Core.Bool.{Bool}
use mathlib.Core.List.{List, [], ◌∷◌}
use Prim.Native.Nat.{ℕ, ◌+◌, ◌*◌}
use native.Mathlib.Omega.{arith}
use lib.Ieee.{Float}
use lib.ListN.{length, take}
use lib.Seq.{take_all}
use Rattle.arcstring.specs.declared.inner.vertex.Vertex.{Vertex}
use Rattle.arcstring.specs.Points.{StringOf, numbered, points}
use Rattle.arcstring.specs.Splice.{splice}
use Rattle.arcstring.proofs.Splices.{take_past_splice}
use Rattle.arcstring_piece.specs.Pieces.{piece, pieces_of, first_pieces}
use Rattle.arcstring_piece.proofs.inner.piece.TwoLists.{first_numbered}

-- the first items of a list that all of `l` was copied to
copied_first : {A : Type 0} (l old new : List A) (n : ℕ) → n ≡ length l → new ≡ splice old 0 (take n l) → take n new ≡ l
copied_first {A} l old new n count e =
    let all : take n l ≡ l = take_all n l (omega arith) in
    let long : n ≡ 0 + length l = omega arith in
    ap₂ take long (e ∙ ap (splice old 0) all) ∙ take_past_splice old 0 l (omega arith)

module _ (v : List Float) (bs : List ℕ) (closed : Bool) (as_many : length v ≡ 3 * length bs) (n : ℕ) (old work : List Float) (olds numbers counts : List ℕ)
    (flags : List Bool) (count : n ≡ length bs) (copied : work ≡ splice old 0 (take (3 * n) v)) (carried : numbers ≡ splice olds 0 (take n bs))
    (first : take 1 counts ≡ n ∷ []) (flag : take 1 flags ≡ closed ∷ []) where
  pub one_piece : first_pieces 1 work numbers counts flags ≡ piece (numbered (points v) bs) closed ∷ []
  unfolding first_pieces pieces_of
  one_piece =
      let there : take n (numbered (points work) numbers) ≡ numbered (points v) bs =
      sym (first_numbered n work numbers) ∙ ap₂ (λ (a : List Float) (b : List ℕ). numbered (points a) b)
      (copied_first v old work (3 * n) (omega arith) copied) (copied_first bs olds numbers n count carried) in
      (λ i. pieces_of (first i) (flag i) (numbered (points work) numbers)) ∙ ap (λ (vs : List Vertex). piece vs closed ∷ []) there
