-- What stands in the local lists that inserting works on: for the contracts of its methods. Definitions only.
use Rattle.std.specs.Prelude.{List, take, Result, Ok, Err}
use Rattle.arcstring_check.specs.declared.check.Refusal.{Refusal}
use Rattle.arcstring_check.specs.Answer.{Answer, refused, answered, refusal_number}
use Rattle.arcstring.specs.declared.inner.vertex.Vertex.{Vertex}
use Rattle.arcstring.specs.Points.{numbered, points}
use Rattle.arcstring_insert.specs.declared.insert.Work.{Work}

-- the vertices with their numbers
abbrev pub standing : Work → List Vertex
standing w = take w.count (numbered (points w.v) w.buoys)

-- what a step answered, and what then stands
abbrev pub worked : Result Unit Refusal → Work → Answer (List Vertex)
worked (Ok tt) w = answered (standing w)
worked (Err e) w = refused (refusal_number e)
