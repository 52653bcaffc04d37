-- The pieces that stand in a `Pieces`, and what a step that cuts them answers: for the contracts of inner functions. Definitions only.
use Rattle.std.specs.Prelude.{List, Result, Ok, Err}
use Rattle.arcstring_check.specs.Answer.{Answer, refused, answered, refusal_number}
use Rattle.arcstring_check.specs.declared.check.Refusal.{Refusal}
use Rattle.arcstring.specs.declared.inner.vertex.Vertex.{Vertex}
use Rattle.arcstring.specs.Points.{StringOf}
use Rattle.arcstring_piece.specs.declared.inner.pieces.Pieces.{Pieces}
use Rattle.arcstring_piece.specs.Pieces.{first_pieces}

abbrev pub standing : Pieces → List (StringOf Vertex)
standing p = first_pieces p.count p.v p.buoys p.counts p.closed

-- the pieces that stand there once a step is done, unless it was refused
abbrev pub held_pieces : Result Unit Refusal → Pieces → Answer (List (StringOf Vertex))
held_pieces (Ok done) p = answered (standing p)
held_pieces (Err e) p = refused (refusal_number e)
