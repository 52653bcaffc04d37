-- `hand_over` copies the vertices and the numbers that stand in the local lists to the caller's buffers, where they fit. Assumes nothing.
use Rattle.std.proofs.lemmas.Result.{err_from_is_err_and}
use mathlib.Core.Path.{sym}
use Prim.Native.Nat.{◌*◌}
use native.Mathlib.Omega.{arith}
use lib.ListN.{length}
use Rattle.arcstring_check.proofs.Rooms.{room_fits}
use Rattle.arcstring_insert.proofs.InsertAnswers.{handed_no_room, handed_no_buoy_room, handed_vertices}
use Rattle.arcstring_insert.proofs.insert.Work.hand_over.Goals as goal

pub returns-in_err-check_room : goal.returns-in_err-check_room
returns-in_err-check_room c =
    let p = err_from_is_err_and c.from_residual.result c.from_residual.ensures.1 in
    let whole = handed_no_room c.args.self.now.count c.args.self.now.v c.args.self.now.buoys c.args.out.now c.args.out_buoys.now
    (omega arith) (omega arith) _ c.in_err-check_room.ensures in
    record { result_value = rw (p.1, p.2) whole.0; out_after = whole.1.0; out_buoys_after = whole.1.1 }

pub returns-in_err-check_room-2 : goal.returns-in_err-check_room-2
returns-in_err-check_room-2 c =
    let p = err_from_is_err_and c.from_residual-in_err-check_room-2.result c.from_residual-in_err-check_room-2.ensures.1 in
    let whole = handed_no_buoy_room c.args.self.now.count c.args.self.now.v c.args.self.now.buoys c.args.out.now c.args.out_buoys.now
    (omega arith) (omega arith) c.in_ok-check_room.ensures _ c.in_err-check_room-2.ensures in
    record { result_value = rw (p.1, p.2) whole.0; out_after = whole.1.0; out_buoys_after = whole.1.1 }

pub copy_run-requires : goal.copy_run-requires
copy_run-requires c = (omega arith, omega (arith, room_fits (3 * c.args.self.now.count) (length c.args.out.now) (sym c.in_ok-check_room.ensures)))

pub copy_items-requires : goal.copy_items-requires
copy_items-requires c = (omega arith, omega (arith, room_fits c.args.self.now.count (length c.args.out_buoys.now) (sym c.in_ok-check_room-2.ensures)))

pub returns : goal.returns
returns c =
    let whole = handed_vertices c.args.self.now.count c.args.self.now.v c.args.self.now.buoys c.args.out.now c.args.out_buoys.now
    (omega arith) (omega arith) c.in_ok-check_room.ensures _ _ c.in_ok-check_room-2.ensures c.copy_run.ensures c.copy_items.ensures in
    record { result_value = whole.0; out_after = whole.1.0; out_buoys_after = whole.1.1 }
