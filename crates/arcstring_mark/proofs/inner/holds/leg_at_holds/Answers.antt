-- The test of leg k by its two vertices. Assumes nothing.
use Rattle.arcstring_mark.proofs.HoldingLegs.{vertices_tested}
use Rattle.arcstring_mark.proofs.inner.holds.leg_at_holds.Goals as goal

pub returns : goal.returns
returns c =
    vertices_tested c.args.p c.args.string.v.now _ _ _ _ _ _ c.position_after-next.ensures.0 c.at-a.ensures c.at-b.ensures c.leg_holds.ensures
