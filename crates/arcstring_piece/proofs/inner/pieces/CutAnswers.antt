-- What one cut answers, and the lists after it: refused where all pieces together are over the limit, and else two pieces in the place of one. Assumes nothing.
use mathlib.Core.Path.{◌≡◌, sym, ap, ap₂, ◌∙◌}
use mathlib.Core.Bool.{Bool}
use mathlib.Core.List.{List, ◌∷◌, ◌++◌}
use Prim.Native.Nat.{ℕ, ◌+◌, ◌-◌, ◌*◌, ◌≤◌, ◌<◌}
use native.Mathlib.Omega.{arith}
use lib.Ieee.{Float}
use lib.ListN.{length, get_or, take, drop}
use Rattle.sphericalpoint.specs.declared.SphericalPoint.{SphericalPoint}
use Rattle.arcstring_check.specs.Answer.{refused, answered}
use Rattle.arcstring.specs.declared.inner.vertex.Vertex.{Vertex}
use Rattle.arcstring.specs.Points.{StringOf, numbered, place_of, points}
use Rattle.arcstring.specs.Splice.{splice}
use Rattle.arcstring_check.specs.Check.{most_points}
use Rattle.arcstring.proofs.Splices.{take-splice}
use Rattle.arcstring_build.specs.Build.{built_string, built_numbered}
use Rattle.arcstring_build.proofs.BuildsWithout.{built_places}
use Rattle.arcstring_insert.proofs.Steps.{over_limit, at_most_limit}
use Rattle.arcstring_piece.specs.declared.inner.pieces.Pieces.{Pieces}
use Rattle.arcstring_piece.specs.Pieces.{piece, first_pieces, sum, Stands, built_room}
use Rattle.arcstring_piece.specs.Standing.{standing}
use Rattle.arcstring.specs.Written.{points_in}
use Rattle.arcstring_piece.specs.Cut.{first_points, second_points, cut_at}
use Rattle.arcstring_piece.proofs.inner.pieces.CutLists.{cut_in, cut_size, cut_held, cut_stands}

-- a built string is a piece: its near list is the places of its vertices
built_piece : (vs : List Vertex) → piece (built_numbered vs).vertices (built_numbered vs).closed ≡ built_numbered vs
unfolding built_numbered built_string
built_piece vs =
    ap (λ (ps : List SphericalPoint). record { vertices = (built_numbered vs).vertices; near = ps; closed = (built_numbered vs).closed }) (built_places vs)

-- how many vertices a string has, whether it is closed, and that it has some
abbrev pub Made : ℕ → Bool → StringOf Vertex → Type 0
Made count closed s = (count ≡ length s.vertices) × (closed ≡ s.closed) × (1 ≤ count)

module _ (p : Pieces) (z : Vertex) (zs : List Vertex) (i k : ℕ) (h : k < p.count) (at total : ℕ)
    (starts : at ≡ sum (take k p.counts)) (all : total ≡ sum (take p.count p.counts)) (x y : ℕ) (f g : Bool)
    (one : Made x f (built_numbered (first_points z zs i))) (two : Made y g (built_numbered (second_points z zs i))) where
  abbrev old : ℕ
  old = get_or p.counts k 0

  abbrev first : StringOf Vertex
  first = built_numbered (first_points z zs i)

  abbrev second : StringOf Vertex
  second = built_numbered (second_points z zs i)

  abbrev cut : List (StringOf Vertex)
  cut = cut_in p k h first second

  size_of_cut : points_in cut ≡ at + (x + y) + (total - (at + old))
  size_of_cut = cut_size p k h at total starts all first second x y one.0 two.0

  pub cut_over : most_points < at + (x + y) + (total - (at + old)) → refused 3 ≡ cut_at place_of built_numbered z zs k i (standing p)
  unfolding cut_at
  cut_over big = sym (over_limit (points_in cut) cut (omega (arith, size_of_cut)))

  module _ (counts' : List ℕ) (fits : at + (x + y) + (total - (at + old)) ≤ most_points)
      (c : counts' ≡ splice p.counts k (x ∷ y ∷ take (p.count - (k + 1)) (drop (k + 1) p.counts))) where
    pub counts_before : take k counts' ≡ take k p.counts
    counts_before = ap (take k) c ∙ take-splice p.counts k _ (omega (arith, p.stands.counts-room, p.stands.pieces))

    module _ (fresh v' : List Float) (numbers buoys' : List ℕ) (closed' : List Bool) where
      pub cut_within : length fresh ≡ 3 * built_room → length numbers ≡ built_room → x + y ≤ built_room →
          take (x + y) (numbered (points fresh) numbers) ≡ first.vertices ++ second.vertices →
          v' ≡ splice p.v (3 * at) (take (3 * (x + y)) fresh ++ take (3 * (total - (at + old))) (drop (3 * (at + old)) p.v)) →
          buoys' ≡ splice p.buoys at (take (x + y) numbers ++ take (total - (at + old)) (drop (at + old) p.buoys)) →
          closed' ≡ splice p.closed k (f ∷ g ∷ take (p.count - (k + 1)) (drop (k + 1) p.closed)) →
          answered (first_pieces (p.count + 1) v' buoys' counts' closed') ≡ cut_at place_of built_numbered z zs k i (standing p)
      unfolding cut_at
      cut_within room space most built w u fl =
          let held : first_pieces (p.count + 1) v' buoys' counts' closed' ≡ cut_in p k h (piece first.vertices f) (piece second.vertices g) =
          cut_held p k h at total starts all first.vertices second.vertices f g x y fresh v' numbers buoys' counts' closed' one.0 two.0 fits c
          (omega arith) (omega arith) built w u fl in
          let fs : piece first.vertices f ≡ first = ap (piece first.vertices) one.1 ∙ built_piece (first_points z zs i) in
          let gs : piece second.vertices g ≡ second = ap (piece second.vertices) two.1 ∙ built_piece (second_points z zs i) in
          ap answered (held ∙ ap₂ (cut_in p k h) fs gs) ∙ sym (at_most_limit (points_in cut) cut (omega (arith, size_of_cut)))

      pub still_stands : length v' ≡ length p.v → length buoys' ≡ length p.buoys → length counts' ≡ length p.counts → length closed' ≡ length p.closed →
          Stands (p.count + 1) v' buoys' counts' closed'
      still_stands =
          cut_stands p k h at total starts all first.vertices second.vertices f g x y fresh v' numbers buoys' counts' closed' one.0 two.0 fits c
          one.2 two.2
