-- `cut_at_points` cuts at each of the points in turn: those that are left, from the legs that stand in the list, give the whole answer. Assumes nothing.
use Rattle.std.proofs.lemmas.Result.{err_from_is_err_and}
use Rattle.arcstring_split_leg.proofs.LegSplits.{cuts_end, cuts_stop, cuts_on}
use Rattle.arcstring_split_leg.proofs.cut_leg.Work.cut_at_points.Goals as goal

pub returns-in_err-cut_legs : goal.returns-in_err-cut_legs
returns-in_err-cut_legs c =
    let p = err_from_is_err_and c.from_residual.result c.from_residual.ensures.1 in
    rw (p.1, p.2) (cuts_stop _ _ c.args.extra.whole _ _ _ c.loop-i.invariant _ c.loop-i-test.true c.at.ensures _ c.in_err-cut_legs.ensures)

pub loop-i-preserved : goal.loop-i-preserved
loop-i-preserved c = cuts_on _ _ c.args.extra.whole _ _ _ c.loop-i.invariant _ c.loop-i-test.true c.at.ensures _ c.in_ok-cut_legs.ensures

pub returns : goal.returns
returns c = cuts_end _ _ c.args.extra.whole _ _ _ c.loop-i.invariant c.loop-i-test.false
