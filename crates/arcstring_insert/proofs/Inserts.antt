-- Vertices put in one after another: one vertex more, a refusal, and the end. Assumes nothing.
use mathlib.Core.Path.{◌≡◌, refl, sym, ap, ◌∙◌}
use mathlib.Core.Bool.{Bool}
use mathlib.Core.List.{List, ◌∷◌}
use Prim.Native.Nat.{ℕ, ◌+◌, ◌*◌, ◌≤◌, ◌<◌}
use native.Mathlib.Omega.{arith}
use lib.ListN.{length, drop}
use lib.Ieee.{Float}
use Rattle.arcstring.specs.declared.inner.vertex.Vertex.{Vertex}
use Rattle.arcstring_check.specs.Answer.{Answer, refused, answered}
use Rattle.arcstring.specs.Points.{numbered, place_of, points}
use Rattle.arcstring.specs.Positions.{vertex_at}
use Rattle.arcstring.proofs.Flat.{length-points}
use Rattle.arcstring.proofs.Numbered.{length-numbered}
use Rattle.arcstring_insert.specs.Steps.{for_each}
use Rattle.arcstring_insert.specs.Insert.{insert_point}
use Rattle.arcstring_insert.proofs.Steps.{each_on, each_stops, each_end, vertices_next}

-- vs is what stands when i of the vertices `extra`, `es` have been put in; those that are left give the whole answer
module _ (closed : Bool) (extra : List Float) (es : List ℕ) (triples : length extra ≡ 3 * length es) (i : ℕ) (vs : List Vertex) (whole : Answer (List Vertex))
    (rest : for_each (insert_point place_of closed) (drop i (numbered (points extra) es)) vs ≡ whole) where
  abbrev put : Vertex → List Vertex → Answer (List Vertex)
  put = insert_point place_of closed

  abbrev all : List Vertex
  all = numbered (points extra) es

  -- none left
  pub points_end : length es ≤ i → answered vs ≡ whole
  points_end h =
      let n = length-points (length es) extra triples in
      sym (each_end put all i vs (omega (arith, length-numbered (points extra) es (sym n)))) ∙ rest

  -- x is vertex i
  module _ (x : Vertex) (more : i < length es) (read : x ≡ vertex_at extra es i) where
    next : drop i all ≡ vertex_at extra es i ∷ drop (i + 1) all
    next = vertices_next extra es (length es) i triples refl more

    this : put (vertex_at extra es i) vs ≡ put x vs
    this = ap (λ (y : Vertex). put y vs) (sym read)

    pub points_stop : (r : ℕ) → refused r ≡ put x vs → refused r ≡ whole
    points_stop r told = sym (each_stops put all i vs (vertex_at extra es i) next r (this ∙ sym told)) ∙ rest

    pub points_on : (ys : List Vertex) → answered ys ≡ put x vs → for_each put (drop (i + 1) all) ys ≡ whole
    points_on ys told = sym (each_on put all i vs (vertex_at extra es i) next ys (this ∙ sym told)) ∙ rest
