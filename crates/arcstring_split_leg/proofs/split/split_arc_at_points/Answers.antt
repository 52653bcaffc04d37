-- `split_arc_at_points` answers as its checks do; else the leg is written to a local list and cut there, and the legs are copied out. Assumes nothing.
use Rattle.std.proofs.lemmas.Result.{err_from_is_err_and}
use mathlib.Core.Path.{sym}
use native.Mathlib.Omega.{arith}
use lib.ListN.{length}
use Rattle.arcstring.specs.Leg.{leg_of}
use Rattle.arcstring_check.proofs.Checks.{whole_list}
use Rattle.arcstring_check.proofs.Rooms.{room_fits}
use Rattle.arcstring_split_leg.proofs.SplitLegAnswers.{one-leg, refused_leg, refused_list, refused_cut, uncut_split, cramped_split, written_split}
use Rattle.arcstring_split_leg.proofs.split.split_arc_at_points.Goals as goal

pub returns-in_err-check_leg : goal.returns-in_err-check_leg
returns-in_err-check_leg c =
    let p = err_from_is_err_and c.from_residual.result c.from_residual.ensures.1 in
    let whole = refused_leg (leg_of c.args.arc) c.args.extra.now c.args.out.now _ c.in_err-check_leg.ensures in
    record { result_value = rw (p.1, p.2) whole.0; out_after = whole.1 }

pub returns-in_err-check_list : goal.returns-in_err-check_list
returns-in_err-check_list c =
    let p = err_from_is_err_and c.from_residual-in_err-check_list.result c.from_residual-in_err-check_list.ensures.1 in
    let whole = refused_list (leg_of c.args.arc) c.args.extra.now c.args.out.now c.in_ok-check_leg.ensures _ c.in_err-check_list.ensures in
    record { result_value = rw (p.1, p.2) whole.0; out_after = whole.1 }

pub of-requires : goal.of-requires
of-requires c = omega (arith, (whole_list 0 c.args.extra.now (sym c.in_ok-check_list.ensures)).triples)

pub returns-in_err-cut_at_points : goal.returns-in_err-cut_at_points
returns-in_err-cut_at_points c =
    let p = err_from_is_err_and c.from_residual-in_err-cut_at_points.result c.from_residual-in_err-cut_at_points.ensures.1 in
    let cuts = rw c.of.ensures.0 at c.in_err-cut_at_points.ensures in
    let whole = refused_cut (leg_of c.args.arc) c.args.extra.now c.args.out.now c.in_ok-check_leg.ensures c.in_ok-check_list.ensures _ _
    (one-leg _ _ _ _ _ _ c.start_of.ensures c.end_of.ensures c.put_vertex.ensures c.put_vertex-2.ensures) cuts in
    record { result_value = rw (p.1, p.2) whole.0; out_after = whole.1 }

pub returns-then-legs-lt2 : goal.returns-then-legs-lt2
returns-then-legs-lt2 c =
    let cuts = rw c.of.ensures.0 at c.in_ok-cut_at_points.ensures in
    let whole = uncut_split (leg_of c.args.arc) c.args.extra.now c.args.out.now c.in_ok-check_leg.ensures c.in_ok-check_list.ensures _
    (one-leg _ _ _ _ _ _ c.start_of.ensures c.end_of.ensures c.put_vertex.ensures c.put_vertex-2.ensures) _ _ (omega arith) cuts c.if-legs-lt2.true in
    record { result_value = whole.0; out_after = whole.1 }

pub returns-in_err-check_room : goal.returns-in_err-check_room
returns-in_err-check_room c =
    let p = err_from_is_err_and c.from_residual-in_err-check_room.result c.from_residual-in_err-check_room.ensures.1 in
    let cuts = rw c.of.ensures.0 at c.in_ok-cut_at_points.ensures in
    let whole = cramped_split (leg_of c.args.arc) c.args.extra.now c.args.out.now c.in_ok-check_leg.ensures c.in_ok-check_list.ensures _
    (one-leg _ _ _ _ _ _ c.start_of.ensures c.end_of.ensures c.put_vertex.ensures c.put_vertex-2.ensures) _ _ (omega arith) cuts c.if-legs-lt2.false _ _
    c.in_err-check_room.ensures (omega arith) in
    record { result_value = rw (p.1, p.2) whole.0; out_after = whole.1 }

pub copy_run-requires : goal.copy_run-requires
copy_run-requires c =
    (omega arith, omega (arith, room_fits _ (length c.args.out.now) (sym c.in_ok-check_room.ensures)))

pub returns : goal.returns
returns c =
    let cuts = rw c.of.ensures.0 at c.in_ok-cut_at_points.ensures in
    let whole = written_split (leg_of c.args.arc) c.args.extra.now c.args.out.now c.in_ok-check_leg.ensures c.in_ok-check_list.ensures _
    (one-leg _ _ _ _ _ _ c.start_of.ensures c.end_of.ensures c.put_vertex.ensures c.put_vertex-2.ensures) _ _ (omega arith) cuts _ c.if-legs-lt2.false
    c.in_ok-check_room.ensures c.copy_run.ensures in
    record { result_value = whole.0; out_after = whole.1 }
