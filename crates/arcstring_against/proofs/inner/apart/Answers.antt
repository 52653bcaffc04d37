-- The vertices of the left along the right, then those of the right along the left. Assumes nothing.
use Rattle.arcstring_against.proofs.Against.{vertices_along, first_within, second_decides}
use Rattle.arcstring_against.proofs.inner.apart.Goals as goal

pub returns-then-not-all_along : goal.returns-then-not-all_along
returns-then-not-all_along c =
    second_decides _ _ _ (vertices_along _ c.vertices.ensures.0 c.all_along.ensures) _ c.if-not-all_along.true
    (vertices_along _ c.vertices-then-not-all_along.ensures.0 c.all_along-then-not-all_along.ensures)

pub returns-else-not-all_along : goal.returns-else-not-all_along
returns-else-not-all_along c = first_within _ _ _ (vertices_along _ c.vertices.ensures.0 c.all_along.ensures) c.if-not-all_along.false
