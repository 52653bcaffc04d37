-- `hand_over` answers that nothing was cut where there is one piece, 7 where a buffer is too short, and else copies the pieces out. Assumes nothing.
use mathlib.Core.Path.{refl}
use Rattle.arcstring_mark_cut.proofs.HandedPieces.{handed_uncut, handed_no_room, handed_pieces}
use Rattle.arcstring_mark_cut.proofs.pieces.Opened.hand_over.Goals as goal

pub returns-then-m-lt2 : goal.returns-then-m-lt2
returns-then-m-lt2 c =
    let whole = handed_uncut c.args.self.now c.args.out.now c.args.out_buoys.now c.args.counts.now c.if-m-lt2.true in
    record { result_value = whole.0; out_after = whole.1.0; out_buoys_after = whole.1.1.0; counts_after = whole.1.1.1 }

pub returns-then-out-total : goal.returns-then-out-total
returns-then-out-total c =
    let whole = handed_no_room c.args.self.now c.args.out.now c.args.out_buoys.now c.args.counts.now c.if-m-lt2.false _ refl c.if-out-total.true in
    record { result_value = whole.0; out_after = whole.1.0; out_buoys_after = whole.1.1.0; counts_after = whole.1.1.1 }

pub returns : goal.returns
returns c =
    let whole = handed_pieces c.args.self.now c.args.out.now c.args.out_buoys.now c.args.counts.now c.if-m-lt2.false _ refl _ _ _ c.if-out-total.false
    c.copy_run.ensures c.copy_items.ensures c.copy_items-2.ensures in
    record { result_value = whole.0; out_after = whole.1.0; out_buoys_after = whole.1.1.0; counts_after = whole.1.1.1 }
