-- The source's test of leg k by its two vertices. Assumes nothing.
use Rattle.arcstring_along.proofs.AlongLegs.{vertices_along}
use Rattle.arcstring_along.proofs.inner.along.along_leg_at.Goals as goal

pub returns : goal.returns
returns c =
    vertices_along c.args.p c.args.string.v.now _ _ _ _ _ _ c.position_after-next.ensures.0 c.at-a.ensures c.at-b.ensures c.coplanar_of.ensures
