-- `cut_at_marks` answers as its checks do; else the string is opened in local lists, cut there at each of the marks, and the pieces are handed over. Assumes
-- nothing.
use Rattle.std.proofs.lemmas.Result.{err_from_is_err_and}
use mathlib.Core.Path.{sym}
use native.Mathlib.Omega.{arith}
use Rattle.arcstring_insert.proofs.BothChecks.{both_checked}
use Rattle.arcstring_mark_cut.proofs.CutStrings.{string_refused, marks_refused, cut_refused, cut_handed}
use Rattle.arcstring_mark_cut.proofs.cut.cut_at_marks.Goals as goal

pub returns-in_err-check_string : goal.returns-in_err-check_string
returns-in_err-check_string c =
    let p = err_from_is_err_and c.from_residual.result c.from_residual.ensures.1 in
    let whole = string_refused c.args.v.now c.args.buoys.now c.args.closed c.args.extra.now c.args.extra_buoys.now c.args.out.now c.args.out_buoys.now
    c.args.counts.now _ c.in_err-check_string.ensures in
    record { result_value = rw (p.1, p.2) whole.0; out_after = whole.1.0; out_buoys_after = whole.1.1.0; counts_after = whole.1.1.1 }

pub returns-in_err-check_points : goal.returns-in_err-check_points
returns-in_err-check_points c =
    let p = err_from_is_err_and c.from_residual-in_err-check_points.result c.from_residual-in_err-check_points.ensures.1 in
    let whole = marks_refused c.args.v.now c.args.buoys.now c.args.closed c.args.extra.now c.args.extra_buoys.now c.args.out.now c.args.out_buoys.now
    c.args.counts.now c.in_ok-check_string.ensures _ c.in_err-check_points.ensures in
    record { result_value = rw (p.1, p.2) whole.0; out_after = whole.1.0; out_buoys_after = whole.1.1.0; counts_after = whole.1.1.1 }

pub invariant_of-open : goal.invariant_of-open
invariant_of-open c =
    let both = both_checked c.args.v.now c.args.buoys.now c.args.extra.now c.args.extra_buoys.now (sym c.in_ok-check_string.ensures)
    (sym c.in_ok-check_points.ensures) in
    record { as_many = omega (arith, both.numbers, both.vertices.triples) }

pub open-requires : goal.open-requires
open-requires c =
    let both = both_checked c.args.v.now c.args.buoys.now c.args.extra.now c.args.extra_buoys.now (sym c.in_ok-check_string.ensures)
    (sym c.in_ok-check_points.ensures) in
    (omega (arith, both.numbers, both.some), omega (arith, both.numbers, both.vertices.at_most))

pub invariant_of-cut_at_each : goal.invariant_of-cut_at_each
invariant_of-cut_at_each c =
    let both = both_checked c.args.v.now c.args.buoys.now c.args.extra.now c.args.extra_buoys.now (sym c.in_ok-check_string.ensures)
    (sym c.in_ok-check_points.ensures) in
    record { as_many = both.points }

pub returns-in_err-cut_at_each : goal.returns-in_err-cut_at_each
returns-in_err-cut_at_each c =
    let p = err_from_is_err_and c.from_residual-in_err-cut_at_each.result c.from_residual-in_err-cut_at_each.ensures.1 in
    let whole = cut_refused c.args.v.now c.args.buoys.now c.args.closed c.args.extra.now c.args.extra_buoys.now c.args.out.now c.args.out_buoys.now
    c.args.counts.now c.in_ok-check_string.ensures c.in_ok-check_points.ensures _ c.open.ensures c.cut_at_each.new.self _
    c.in_err-cut_at_each.ensures in
    record { result_value = rw (p.1, p.2) whole.0; out_after = whole.1.0; out_buoys_after = whole.1.1.0; counts_after = whole.1.1.1 }

pub returns : goal.returns
returns c =
    let whole = cut_handed c.args.v.now c.args.buoys.now c.args.closed c.args.extra.now c.args.extra_buoys.now c.args.out.now c.args.out_buoys.now
    c.args.counts.now c.in_ok-check_string.ensures c.in_ok-check_points.ensures _ c.open.ensures c.cut_at_each.new.self _ _ _ _
    c.in_ok-cut_at_each.ensures
    (c.hand_over.ensures.result_value, (c.hand_over.ensures.out_after, (c.hand_over.ensures.out_buoys_after, c.hand_over.ensures.counts_after))) in
    record { result_value = whole.0; out_after = whole.1.0; out_buoys_after = whole.1.1.0; counts_after = whole.1.1.1 }
