-- `insert_vertices` answers as its checks do; else vertices and numbers are copied, the points put in one by one, and the result handed over. Assumes nothing.
use Rattle.std.proofs.lemmas.Result.{err_from_is_err_and}
use mathlib.Core.Path.{sym}
use native.Mathlib.Omega.{arith}
use Rattle.arcstring_insert.proofs.BothChecks.{both_checked}
use Rattle.arcstring_insert.proofs.InsertAnswers.{refused_string, refused_points, refused_step, written_insert, steps_there}
use Rattle.arcstring_insert.proofs.insert.insert_vertices.Goals as goal

pub returns-in_err-check_string : goal.returns-in_err-check_string
returns-in_err-check_string c =
    let p = err_from_is_err_and c.from_residual.result c.from_residual.ensures.1 in
    let whole = refused_string c.args.v.now c.args.buoys.now c.args.closed c.args.extra.now c.args.extra_buoys.now c.args.out.now c.args.out_buoys.now
    _ c.in_err-check_string.ensures in
    record { result_value = rw (p.1, p.2) whole.0; out_after = whole.1.0; out_buoys_after = whole.1.1 }

pub returns-in_err-check_points : goal.returns-in_err-check_points
returns-in_err-check_points c =
    let p = err_from_is_err_and c.from_residual-in_err-check_points.result c.from_residual-in_err-check_points.ensures.1 in
    let whole = refused_points c.args.v.now c.args.buoys.now c.args.closed c.args.extra.now c.args.extra_buoys.now c.args.out.now c.args.out_buoys.now
    c.in_ok-check_string.ensures _ c.in_err-check_points.ensures in
    record { result_value = rw (p.1, p.2) whole.0; out_after = whole.1.0; out_buoys_after = whole.1.1 }

pub copy_run-requires : goal.copy_run-requires
copy_run-requires c =
    let both = both_checked _ _ _ _ (sym c.in_ok-check_string.ensures) (sym c.in_ok-check_points.ensures) in
    (omega (arith, both.vertices.triples), omega (arith, both.vertices.at_most))

pub copy_items-requires : goal.copy_items-requires
copy_items-requires c =
    let both = both_checked _ _ _ _ (sym c.in_ok-check_string.ensures) (sym c.in_ok-check_points.ensures) in
    (omega (arith, both.numbers), omega (arith, both.vertices.at_most))

pub invariant_of-work : goal.invariant_of-work
invariant_of-work c =
    let both = both_checked _ _ _ _ (sym c.in_ok-check_string.ensures) (sym c.in_ok-check_points.ensures) in
    record { fits = (omega arith, omega arith, both.some, both.vertices.at_most) }

pub invariant_of-extra : goal.invariant_of-extra
invariant_of-extra c =
    let both = both_checked _ _ _ _ (sym c.in_ok-check_string.ensures) (sym c.in_ok-check_points.ensures) in
    record { as_many = both.points }

pub returns-in_err-insert_points : goal.returns-in_err-insert_points
returns-in_err-insert_points c =
    let both = both_checked _ _ _ _ (sym c.in_ok-check_string.ensures) (sym c.in_ok-check_points.ensures) in
    let p = err_from_is_err_and c.from_residual-in_err-insert_points.result c.from_residual-in_err-insert_points.ensures.1 in
    let put = steps_there c.args.v.now c.args.buoys.now c.args.closed c.args.extra.now c.args.extra_buoys.now c.args.out.now c.args.out_buoys.now _ _ _ _ _ both
    (omega (arith, both.vertices.at_most)) (omega (arith, both.vertices.at_most)) c.copy_run.ensures c.copy_items.ensures c.in_err-insert_points.ensures in
    let whole = refused_step c.args.v.now c.args.buoys.now c.args.closed c.args.extra.now c.args.extra_buoys.now c.args.out.now c.args.out_buoys.now
    c.in_ok-check_string.ensures c.in_ok-check_points.ensures _ put in
    record { result_value = rw (p.1, p.2) whole.0; out_after = whole.1.0; out_buoys_after = whole.1.1 }

pub returns : goal.returns
returns c =
    let both = both_checked _ _ _ _ (sym c.in_ok-check_string.ensures) (sym c.in_ok-check_points.ensures) in
    let put = steps_there c.args.v.now c.args.buoys.now c.args.closed c.args.extra.now c.args.extra_buoys.now c.args.out.now c.args.out_buoys.now _ _ _ _ _ both
    (omega (arith, both.vertices.at_most)) (omega (arith, both.vertices.at_most)) c.copy_run.ensures c.copy_items.ensures c.in_ok-insert_points.ensures in
    let whole = written_insert c.args.v.now c.args.buoys.now c.args.closed c.args.extra.now c.args.extra_buoys.now c.args.out.now c.args.out_buoys.now
    c.in_ok-check_string.ensures c.in_ok-check_points.ensures _ _ _ _ put
    (c.hand_over.ensures.result_value, (c.hand_over.ensures.out_after, c.hand_over.ensures.out_buoys_after)) in
    record { result_value = whole.0; out_after = whole.1.0; out_buoys_after = whole.1.1 }
