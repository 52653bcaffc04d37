-- `split_arcstring_at_points` answers as its checks do; else the string is the one piece, which is cut at the points, and the pieces are
-- handed over. Assumes nothing.
use Rattle.std.proofs.lemmas.Result.{err_from_is_err_and}
use Rattle.arcstring_split.proofs.split.SplitStrings.{string_numbers, points_numbers, string_refused, points_refused, cuts_refused, split_handed}
use Rattle.arcstring_split.proofs.split.split_arcstring_at_points.Goals as goal

pub returns-in_err-check_string : goal.returns-in_err-check_string
returns-in_err-check_string c =
    let p = err_from_is_err_and c.from_residual.result c.from_residual.ensures.1 in
    let whole = string_refused c.args.v.now c.args.buoys.now c.args.closed c.args.extra.now c.args.extra_buoys.now
    c.args.out.now c.args.out_buoys.now c.args.counts.now c.args.flags.now _ c.in_err-check_string.ensures in
    rw (p.1, p.2)
    (record { result_value = whole.0; out_after = whole.1.0; out_buoys_after = whole.1.1.0; counts_after = whole.1.1.1.0; flags_after = whole.1.1.1.1 })

pub returns-in_err-check_points : goal.returns-in_err-check_points
returns-in_err-check_points c =
    let p = err_from_is_err_and c.from_residual-in_err-check_points.result c.from_residual-in_err-check_points.ensures.1 in
    let whole = points_refused c.args.v.now c.args.buoys.now c.args.closed c.args.extra.now c.args.extra_buoys.now
    c.args.out.now c.args.out_buoys.now c.args.counts.now c.args.flags.now c.in_ok-check_string.ensures _ c.in_err-check_points.ensures in
    rw (p.1, p.2)
    (record { result_value = whole.0; out_after = whole.1.0; out_buoys_after = whole.1.1.0; counts_after = whole.1.1.1.0; flags_after = whole.1.1.1.1 })

pub returns-in_err-cut_at_points : goal.returns-in_err-cut_at_points
returns-in_err-cut_at_points c =
    let p = err_from_is_err_and c.from_residual-in_err-cut_at_points.result c.from_residual-in_err-cut_at_points.ensures.1 in
    let whole = cuts_refused c.args.v.now c.args.buoys.now c.args.closed c.args.extra.now c.args.extra_buoys.now
    c.args.out.now c.args.out_buoys.now c.args.counts.now c.args.flags.now c.in_ok-check_string.ensures c.in_ok-check_points.ensures
    _ c.hold.ensures _ c.in_err-cut_at_points.ensures in
    rw (p.1, p.2)
    (record { result_value = whole.0; out_after = whole.1.0; out_buoys_after = whole.1.1.0; counts_after = whole.1.1.1.0; flags_after = whole.1.1.1.1 })

pub invariant_of-hold : goal.invariant_of-hold
invariant_of-hold c = record { as_many = (string_numbers c.args.v.now c.args.buoys.now c.in_ok-check_string.ensures).0 }

pub hold-requires : goal.hold-requires
hold-requires c = let numbers = string_numbers c.args.v.now c.args.buoys.now c.in_ok-check_string.ensures in (numbers.1, numbers.2)

pub invariant_of-points : goal.invariant_of-points
invariant_of-points c = record { as_many = points_numbers c.args.extra.now c.args.extra_buoys.now c.in_ok-check_points.ensures }

pub returns : goal.returns
returns c =
    let whole = split_handed c.args.v.now c.args.buoys.now c.args.closed c.args.extra.now c.args.extra_buoys.now
    c.args.out.now c.args.out_buoys.now c.args.counts.now c.args.flags.now c.in_ok-check_string.ensures c.in_ok-check_points.ensures
    _ c.hold.ensures c.cut_at_points.new.pieces _ _ _ _ _ c.in_ok-cut_at_points.ensures (
      c.hand_over.ensures.result_value,
      (
        c.hand_over.ensures.out_after,
        (
          c.hand_over.ensures.out_buoys_after,
          (c.hand_over.ensures.counts_after, c.hand_over.ensures.flags_after),
        ),
      ),
    ) in
    record { result_value = whole.0; out_after = whole.1.0; out_buoys_after = whole.1.1.0; counts_after = whole.1.1.1.0; flags_after = whole.1.1.1.1 }
