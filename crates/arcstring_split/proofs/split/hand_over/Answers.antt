-- `hand_over` answers that nothing was cut where there is one piece, 7 where a buffer is too short, and else copies the pieces out. Assumes nothing.
use native.Mathlib.Omega.{arith}
use Rattle.arcstring_piece.proofs.inner.pieces.CutLists.{flag-length}
use Rattle.arcstring_split.proofs.split.SplitAnswers.{all_fit, handed_uncut, handed_no_room, handed_pieces}
use Rattle.arcstring_split.proofs.split.hand_over.Goals as goal

pub returns-then-m-lt2 : goal.returns-then-m-lt2
returns-then-m-lt2 c =
    let whole = handed_uncut c.args.pieces.now c.args.out.now c.args.out_buoys.now c.args.counts.now c.args.flags.now c.if-m-lt2.true in
    record { result_value = whole.0; out_after = whole.1.0; out_buoys_after = whole.1.1.0; counts_after = whole.1.1.1.0; flags_after = whole.1.1.1.1 }

pub overflow_mul-total : goal.overflow_mul-total
overflow_mul-total c = omega (arith, c.total-total.ensures, c.args.pieces.now.stands.limit)

pub returns-then-out-total : goal.returns-then-out-total
returns-then-out-total c =
    let whole = handed_no_room c.args.pieces.now c.args.out.now c.args.out_buoys.now c.args.counts.now c.args.flags.now
    c.if-m-lt2.false _ c.total-total.ensures c.if-out-total.true in
    record { result_value = whole.0; out_after = whole.1.0; out_buoys_after = whole.1.1.0; counts_after = whole.1.1.1.0; flags_after = whole.1.1.1.1 }

pub copy_run-requires : goal.copy_run-requires
copy_run-requires c =
    let fits = all_fit c.args.pieces.now c.args.out.now c.args.out_buoys.now c.args.counts.now c.args.flags.now _ c.if-out-total.false in
    let there = c.args.pieces.now.stands in
    (omega (arith, c.total-total.ensures, there.limit, there.floats), omega (arith, fits))

pub copy_items-requires : goal.copy_items-requires
copy_items-requires c =
    let fits = all_fit c.args.pieces.now c.args.out.now c.args.out_buoys.now c.args.counts.now c.args.flags.now _ c.if-out-total.false in
    let there = c.args.pieces.now.stands in
    (omega (arith, c.total-total.ensures, there.limit, there.buoys_room), omega (arith, fits))

pub copy_items-requires-2 : goal.copy_items-requires-2
copy_items-requires-2 c =
    let fits = all_fit c.args.pieces.now c.args.out.now c.args.out_buoys.now c.args.counts.now c.args.flags.now _ c.if-out-total.false in
    let there = c.args.pieces.now.stands in
    (omega (arith, there.counts-room, there.pieces), omega (arith, fits))

pub copy_flags-requires : goal.copy_flags-requires
copy_flags-requires c =
    let fits = all_fit c.args.pieces.now c.args.out.now c.args.out_buoys.now c.args.counts.now c.args.flags.now _ c.if-out-total.false in
    omega (arith, fits, flag-length c.args.pieces.now)

pub returns : goal.returns
returns c =
    let whole = handed_pieces c.args.pieces.now c.args.out.now c.args.out_buoys.now c.args.counts.now c.args.flags.now
    c.if-m-lt2.false _ c.total-total.ensures _ _ _ _ c.if-out-total.false
    c.copy_run.ensures c.copy_items.ensures c.copy_items-2.ensures c.copy_flags.ensures in
    record { result_value = whole.0; out_after = whole.1.0; out_buoys_after = whole.1.1.0; counts_after = whole.1.1.1.0; flags_after = whole.1.1.1.1 }
