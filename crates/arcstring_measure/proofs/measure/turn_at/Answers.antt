-- The turn orientation at a vertex: NaN at an open end, else from the vertices before and after it. Assumes nothing.
use Rattle.arcstring_measure.proofs.Turns.{nought_by_nought, no_turn, turn_there}
use Rattle.arcstring_measure.proofs.measure.turn_at.Goals as goal

pub returns-then-closed-k : goal.returns-then-closed-k
returns-then-closed-k c = no_turn c.args.string.v.now _ _ _ c.args.string.whole _ nought_by_nought c.if-closed-k.true

pub returns : goal.returns
returns c =
    turn_there c.args.string.v.now _ _ _ c.args.string.whole _ _ _ _ _ _ c.if-closed-k.false c.requires c.position_before.ensures.1
    c.position_after.ensures.1 c.position_before.ensures.0 c.at.ensures c.at-2.ensures c.position_after.ensures.0 c.at-3.ensures
    c.turn_between.ensures
