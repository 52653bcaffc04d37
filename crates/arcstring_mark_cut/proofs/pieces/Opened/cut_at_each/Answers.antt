-- `cut_at_each` takes the marks in turn: those that are left, from the pieces that stand in the string, give the whole answer. Assumes nothing.
use Rattle.std.proofs.lemmas.Result.{err_from_is_err_and}
use native.Mathlib.Omega.{arith}
use Rattle.arcstring_mark_cut.proofs.EachMark.{marks_end, marks_stop, marks_on}
use Rattle.arcstring_mark_cut.proofs.pieces.Opened.cut_at_each.Goals as goal

pub returns-in_err-cut_at : goal.returns-in_err-cut_at
returns-in_err-cut_at c =
    let p = err_from_is_err_and c.from_residual.result c.from_residual.ensures.1 in
    rw (p.1, p.2)
    (marks_stop c.args.marks.v.now c.args.marks.buoys.now c.args.marks.as_many c.loop-i.self c.loop-i.i _ c.loop-i.invariant c.at.result c.cut_at.new.self
    (omega (arith, c.len-i-end.ensures)) c.at.ensures _ c.in_err-cut_at.ensures)

pub loop-i-preserved : goal.loop-i-preserved
loop-i-preserved c =
    marks_on c.args.marks.v.now c.args.marks.buoys.now c.args.marks.as_many c.loop-i.self c.loop-i.i _ c.loop-i.invariant c.at.result c.cut_at.new.self
    (omega (arith, c.len-i-end.ensures)) c.at.ensures c.in_ok-cut_at.ensures

pub returns : goal.returns
returns c =
    marks_end c.args.marks.v.now c.args.marks.buoys.now c.args.marks.as_many c.loop-i.self c.loop-i.i _ c.loop-i.invariant (omega (arith, c.len-i-end.ensures))
