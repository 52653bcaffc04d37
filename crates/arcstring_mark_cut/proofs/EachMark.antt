-- Marks one after another: those that are left, from the pieces that stand in the string, give the whole answer. One mark more, a refusal, and the end.
-- Assumes nothing.
use Rattle.std.specs.Prelude.{Ok, Err}
use mathlib.Core.Path.{◌≡◌, refl, sym, ap, ◌∙◌}
use mathlib.Core.List.{List, ◌∷◌}
use Prim.Native.Nat.{ℕ, ◌+◌, ◌*◌, ◌≤◌, ◌<◌}
use native.Mathlib.Omega.{arith}
use lib.ListN.{length, drop}
use lib.Ieee.{Float}
use Rattle.arcstring_check.specs.declared.check.Refusal.{Refusal}
use Rattle.arcstring_check.specs.Answer.{Answer, answered, refusal_number}
use Rattle.arcstring.specs.declared.inner.vertex.Vertex.{Vertex}
use Rattle.arcstring.specs.Points.{numbered, place_of, points}
use Rattle.arcstring.specs.Positions.{vertex_at}
use Rattle.arcstring.proofs.Flat.{length-points}
use Rattle.arcstring.proofs.Numbered.{length-numbered}
use Rattle.arcstring_insert.specs.Steps.{for_each}
use Rattle.arcstring_insert.proofs.Steps.{each_on, each_stops, each_end, vertices_next}
use Rattle.arcstring_mark_cut.specs.declared.pieces.Opened.{Opened}
use Rattle.arcstring_mark_cut.specs.CutAtMarks.{cut_at_mark}
use Rattle.arcstring_mark_cut.specs.OpenedPieces.{pieces_of, still_standing}

-- s the string when i of the marks `extra`, `es` are done
module _ (extra : List Float) (es : List ℕ) (triples : length extra ≡ 3 * length es) (s : Opened) (i : ℕ) (whole : Answer (List (List Vertex)))
    (rest : for_each (cut_at_mark place_of) (drop i (numbered (points extra) es)) (pieces_of s) ≡ whole) where
  abbrev marks : List Vertex
  marks = numbered (points extra) es

  -- none left
  pub marks_end : length es ≤ i → answered (pieces_of s) ≡ whole
  marks_end h =
      let n = length-points (length es) extra triples in
      sym (each_end (cut_at_mark place_of) marks i (pieces_of s) (omega (arith, length-numbered (points extra) es (sym n)))) ∙ rest

  -- x is mark i, t the string after it
  module _ (x : Vertex) (t : Opened) (more : i < length es) (read : x ≡ vertex_at extra es i) where
    next : drop i marks ≡ vertex_at extra es i ∷ drop (i + 1) marks
    next = vertices_next extra es (length es) i triples refl more

    answer : (a : Answer (List (List Vertex))) → a ≡ cut_at_mark place_of x (pieces_of s) → cut_at_mark place_of (vertex_at extra es i) (pieces_of s) ≡ a
    answer a done = ap (λ (y : Vertex). cut_at_mark place_of y (pieces_of s)) (sym read) ∙ sym done

    pub marks_stop : (e : Refusal) → still_standing (Err e) t ≡ cut_at_mark place_of x (pieces_of s) → still_standing (Err e) t ≡ whole
    marks_stop e done =
        sym (each_stops (cut_at_mark place_of) marks i (pieces_of s) (vertex_at extra es i) next (refusal_number e) (answer (still_standing (Err e) t) done))
        ∙ rest

    pub marks_on : still_standing (Ok tt) t ≡ cut_at_mark place_of x (pieces_of s)
        → for_each (cut_at_mark place_of) (drop (i + 1) marks) (pieces_of t) ≡ whole
    marks_on done =
        sym (each_on (cut_at_mark place_of) marks i (pieces_of s) (vertex_at extra es i) next (pieces_of t) (answer (still_standing (Ok tt) t) done)) ∙ rest
