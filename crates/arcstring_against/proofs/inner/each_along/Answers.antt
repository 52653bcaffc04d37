-- The vertices of the longer, then those of the shorter. Assumes nothing.
use Rattle.arcstring_against.proofs.Against.{vertices_along, each_stop, each_go}
use Rattle.arcstring_against.proofs.inner.each_along.Goals as goal

pub returns-then-all_along : goal.returns-then-all_along
returns-then-all_along c =
    each_go _ _ _ (vertices_along _ c.vertices.ensures.0 c.all_along.ensures) _ c.if-all_along.true
    (vertices_along _ c.vertices-then-all_along.ensures.0 c.all_along-then-all_along.ensures)

pub returns-else-all_along : goal.returns-else-all_along
returns-else-all_along c = each_stop _ _ _ (vertices_along _ c.vertices.ensures.0 c.all_along.ensures) c.if-all_along.false
