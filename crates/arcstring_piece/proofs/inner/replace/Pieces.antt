-- Laws of pieces that stand one after another: lists of them after one another, the piece at a place, how many, and how many points. Assumes nothing.
use mathlib.Core.Path.{◌≡◌, refl, sym, ap, ap₂, ◌∙◌}
use mathlib.Core.Bool.{Bool, false}
use mathlib.Core.List.{List, [], ◌∷◌, ◌++◌}
use Prim.Native.Nat.{ℕ, suc, ◌+◌, ◌≤◌, ◌<◌}
use native.Mathlib.Numerals.{add-one}
use native.Mathlib.Omega.{arith}
use lib.ListN.{length, get_or, take, drop, length-drop}
use lib.Seq.{length-take-le, take-take, drop-drop, take_at, drop_at, get_or_at, split_at}
use Rattle.arcstring.specs.declared.inner.vertex.Vertex.{Vertex}
use Rattle.arcstring.specs.Points.{StringOf}
use Rattle.std.proofs.lemmas.List.{drop-take}
use Rattle.arcstring_piece.specs.Pieces.{piece, pieces_of, sum}
use Rattle.arcstring.specs.Written.{points_in}
use Rattle.arcstring_piece.specs.Cut.{no_string}

-- ---- pieces after one another

pub pieces_append : (cs : List ℕ) (fs : List Bool) (ds : List ℕ) (gs : List Bool) (vs : List Vertex) → length cs ≡ length fs →
    pieces_of (cs ++ ds) (fs ++ gs) vs ≡ pieces_of cs fs vs ++ pieces_of ds gs (drop (sum cs) vs)
unfolding pieces_of
pieces_append [] [] ds gs vs h = refl
pieces_append [] (f ∷ fs) ds gs vs h = absurd (omega arith)
pieces_append (c ∷ cs) [] ds gs vs h = absurd (omega arith)
pieces_append (c ∷ cs) (f ∷ fs) ds gs vs h =
    ap (λ (ss : List (StringOf Vertex)). piece (take c vs) f ∷ ss)
    (pieces_append cs fs ds gs (drop c vs) (omega arith)
    ∙ ap (λ (ws : List Vertex). pieces_of cs fs (drop c vs) ++ pieces_of ds gs ws) (drop-drop (sum cs) c vs))

-- only as many points as the counts say are looked at
pub pieces_first : (cs : List ℕ) (fs : List Bool) (vs : List Vertex) → pieces_of cs fs (take (sum cs) vs) ≡ pieces_of cs fs vs
unfolding pieces_of
pieces_first [] fs vs = refl
pieces_first (c ∷ cs) [] vs = refl
pieces_first (c ∷ cs) (f ∷ fs) vs =
    ap₂ (λ (ws : List Vertex) (ss : List (StringOf Vertex)). piece ws f ∷ ss)
    (take-take c (c + sum cs) vs (omega arith))
    (ap (pieces_of cs fs) (drop-take c (sum cs) vs) ∙ pieces_first cs fs (drop c vs))

pub pieces_same : (cs : List ℕ) (fs : List Bool) (vs ws : List Vertex) → take (sum cs) vs ≡ take (sum cs) ws → pieces_of cs fs vs ≡ pieces_of cs fs ws
pieces_same cs fs vs ws h = sym (pieces_first cs fs vs) ∙ ap (pieces_of cs fs) h ∙ pieces_first cs fs ws

pub pieces_length : (cs : List ℕ) (fs : List Bool) (vs : List Vertex) → length cs ≡ length fs → length (pieces_of cs fs vs) ≡ length cs
unfolding pieces_of
pieces_length [] fs vs h = refl
pieces_length (c ∷ cs) [] vs h = absurd (omega arith)
pieces_length (c ∷ cs) (f ∷ fs) vs h = ap suc (pieces_length cs fs (drop c vs) (omega arith))

-- ---- how many points

pub points-append : (ss ts : List (StringOf Vertex)) → points_in (ss ++ ts) ≡ points_in ss + points_in ts
points-append [] ts = omega arith
points-append (s ∷ ss) ts = omega (arith, points-append ss ts)

pub pieces_points : (cs : List ℕ) (fs : List Bool) (vs : List Vertex) → length cs ≡ length fs → sum cs ≤ length vs → points_in (pieces_of cs fs vs) ≡ sum cs
unfolding pieces_of
pieces_points [] fs vs h enough = refl
pieces_points (c ∷ cs) [] vs h enough = absurd (omega arith)
pieces_points (c ∷ cs) (f ∷ fs) vs h enough =
    omega (arith, length-take-le c vs (omega arith), pieces_points cs fs (drop c vs) (omega arith) (rw length-drop (omega arith)))

-- ---- the piece at place k of those that the counts cs and the flags fs say

module _ (cs : List ℕ) (fs : List Bool) (vs : List Vertex) (k : ℕ) (same : length cs ≡ length fs) (h : k < length cs) where
  abbrev at : ℕ
  at = sum (take k cs)

  abbrev old : ℕ
  old = get_or cs k 0

  pub pieces_at : pieces_of cs fs vs ≡
      pieces_of (take k cs) (take k fs) vs
      ++ (piece (take old (drop at vs)) (get_or fs k false) ∷ pieces_of (drop (k + 1) cs) (drop (k + 1) fs) (drop (at + old) vs))
  unfolding pieces_of
  pieces_at =
      let c : cs ≡ take k cs ++ (old ∷ drop (k + 1) cs) = rw add-one (split_at cs k 0 h) in
      let f : fs ≡ take k fs ++ (get_or fs k false ∷ drop (k + 1) fs) = rw add-one (split_at fs k false (omega arith)) in
      ap₂ (λ (a : List ℕ) (b : List Bool). pieces_of a b vs) c f
      ∙ pieces_append (take k cs) (take k fs) (old ∷ drop (k + 1) cs) (get_or fs k false ∷ drop (k + 1) fs) vs
      (length-take-le k cs (omega arith) ∙ sym (length-take-le k fs (omega arith)))
      ∙ ap (λ (ws : List Vertex). pieces_of (take k cs) (take k fs) vs
      ++ (piece (take old (drop at vs)) (get_or fs k false) ∷ pieces_of (drop (k + 1) cs) (drop (k + 1) fs) ws)) (drop-drop old at vs)

  front_length : length (pieces_of (take k cs) (take k fs) vs) ≡ k
  front_length =
      pieces_length (take k cs) (take k fs) vs (length-take-le k cs (omega arith) ∙ sym (length-take-le k fs (omega arith))) ∙ length-take-le k cs (omega arith)

  pub pieces_before : take k (pieces_of cs fs vs) ≡ pieces_of (take k cs) (take k fs) vs
  pieces_before = ap (take k) pieces_at ∙ take_at (pieces_of (take k cs) (take k fs) vs) _ k front_length

  pub pieces_there : get_or (pieces_of cs fs vs) k no_string ≡ piece (take old (drop at vs)) (get_or fs k false)
  pieces_there =
      ap (λ (ss : List (StringOf Vertex)). get_or ss k no_string) pieces_at
      ∙ get_or_at (pieces_of (take k cs) (take k fs) vs) _ _ no_string k front_length

  pub pieces_after : drop (k + 1) (pieces_of cs fs vs) ≡ pieces_of (drop (k + 1) cs) (drop (k + 1) fs) (drop (at + old) vs)
  pieces_after =
      let there = piece (take old (drop at vs)) (get_or fs k false) in
      let rest = pieces_of (drop (k + 1) cs) (drop (k + 1) fs) (drop (at + old) vs) in
      ap (drop (k + 1)) pieces_at
      ∙ sym (drop-drop 1 k (pieces_of (take k cs) (take k fs) vs ++ (there ∷ rest)))
      ∙ ap (drop 1) (drop_at (pieces_of (take k cs) (take k fs) vs) (there ∷ rest) k front_length)
