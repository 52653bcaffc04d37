-- `cut_at_points` cuts at each of the points in turn: what is left to do from the pieces that stand there gives the whole answer. Assumes nothing.
use native.Mathlib.Omega.{arith}
use Rattle.std.proofs.lemmas.Result.{err_from_is_err_and}
use Rattle.arcstring_cut.proofs.inner.cut_place.CutPlaces.{points_end, points-step, points_stop}
use Rattle.arcstring_cut.proofs.inner.cut_place.cut_at_points.Goals as goal

pub returns-in_err-cut_string : goal.returns-in_err-cut_string
returns-in_err-cut_string c =
    let p = err_from_is_err_and c.from_residual.result c.from_residual.ensures.1 in
    rw (p.1, p.2)
    (points_stop c.args.extra.v.now c.args.extra.buoys.now c.args.extra.as_many _ c.loop-i.i _ c.loop-i.invariant
    (omega (arith, c.loop-i-test.true, c.len-i-end.ensures)) _ c.at.ensures
    c.cut_string.new.pieces _ c.in_err-cut_string.ensures)

pub loop-i-preserved : goal.loop-i-preserved
loop-i-preserved c =
    points-step c.args.extra.v.now c.args.extra.buoys.now c.args.extra.as_many _ c.loop-i.i _ c.loop-i.invariant
    (omega (arith, c.loop-i-test.true, c.len-i-end.ensures)) _ c.at.ensures
    c.cut_string.new.pieces c.in_ok-cut_string.ensures

pub returns : goal.returns
returns c = points_end c.args.extra.v.now c.args.extra.buoys.now c.args.extra.as_many _ c.loop-i.i _ c.loop-i.invariant
    (omega (arith, c.loop-i-test.false, c.len-i-end.ensures))
