-- `insert_points` puts in each of the vertices in turn: those left, put in among the vertices that stand in the lists, give the whole answer. Assumes nothing.
use Rattle.std.proofs.lemmas.Result.{err_from_is_err_and}
use mathlib.Core.Path.{refl}
use native.Mathlib.Omega.{arith}
use Rattle.arcstring_insert.specs.Insert.{inserted}
use Rattle.arcstring_insert.proofs.Inserts.{points_end, points_stop, points_on}
use Rattle.arcstring_insert.proofs.insert.Work.insert_points.Goals as goal

pub loop-i-init : goal.loop-i-init
unfolding inserted
loop-i-init c = refl

pub returns-in_err-insert_point : goal.returns-in_err-insert_point
returns-in_err-insert_point c =
    let p = err_from_is_err_and c.from_residual.result c.from_residual.ensures.1 in
    rw (p.1, p.2)
    (points_stop c.args.closed _ _ c.args.extra.as_many _ _ _ c.loop-i.invariant _ (omega arith) c.at.ensures _ c.in_err-insert_point.ensures)

pub loop-i-preserved : goal.loop-i-preserved
loop-i-preserved c =
    points_on c.args.closed _ _ c.args.extra.as_many _ _ _ c.loop-i.invariant _ (omega arith) c.at.ensures _ c.in_ok-insert_point.ensures

pub returns : goal.returns
returns c = points_end c.args.closed _ _ c.args.extra.as_many _ _ _ c.loop-i.invariant (omega arith)
