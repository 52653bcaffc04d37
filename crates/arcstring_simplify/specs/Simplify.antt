-- Simplifying, as `ArcString::simplify` does it: the call, over the rounds of arcstring_rounds. Definitions only.
use Rattle.std.specs.Prelude.{Bool, List, ℕ, Float}
use Rattle.arcstring_check.specs.Answer.{Answer}
use Rattle.arcstring.specs.declared.inner.vertex.Vertex.{Vertex}
use Rattle.arcstring.specs.Points.{numbered, place_of, points}
use Rattle.arcstring_check.specs.Check.{lent}
use Rattle.arcstring_rounds.specs.Rounds.{simplified}

unfoldable pub simplify : List Float → List ℕ → Bool → ℕ → ℕ → Answer (List Vertex)
simplify v buoys closed room buoy_room = lent v buoys room buoy_room (simplified place_of closed (numbered (points v) buoys))
