-- `simplify_points` answers as its check does, and else gathers what stands at the positions that the rounds leave. Assumes nothing.
use Rattle.std.proofs.lemmas.Result.{err_from_is_err_and}
use mathlib.Core.Path.{sym}
use Prim.Native.Nat.{◌*◌, ◌≤◌}
use native.Mathlib.Omega.{arith}
use lib.ListN.{length}
use lib.Seq.{length-take-le}
use Rattle.arcstring_check.proofs.Checks.{stored_whole}
use Rattle.arcstring_check.proofs.Rooms.{room_fits}
use Rattle.arcstring_rounds.proofs.Left.{left-within, points_refused, points_past_end, points_no_room, points_done}
use Rattle.arcstring_rounds.proofs.inner.simplify_points.Goals as goal

pub returns-in_err-check_stored : goal.returns-in_err-check_stored
returns-in_err-check_stored c =
    let p = err_from_is_err_and c.from_residual.result c.from_residual.ensures.1 in
    let whole = points_refused c.args.v.now c.args.closed c.args.out.now _ c.in_err-check_stored.ensures in
    record { result_value = rw (p.1, p.2) whole.0; out_after = whole.1 }

pub simplify_positions-requires : goal.simplify_positions-requires
simplify_positions-requires c =
    let most = (stored_whole c.args.v.now (sym c.in_ok-check_stored.ensures)).at_most in
    (omega (arith, most), omega (arith, most))

pub returns-in_err-n : goal.returns-in_err-n
returns-in_err-n c =
    let p = err_from_is_err_and c.from_residual-in_err-n.result c.from_residual-in_err-n.ensures.1 in
    let whole = points_past_end c.args.v.now c.args.closed c.args.out.now c.in_ok-check_stored.ensures _ c.in_err-n.ensures.0 in
    record { result_value = rw (p.1, p.2) whole.0; out_after = whole.1 }

pub returns-in_err-check_room : goal.returns-in_err-check_room
returns-in_err-check_room c =
    let p = err_from_is_err_and c.from_residual-in_err-check_room.result c.from_residual-in_err-check_room.ensures.1 in
    let most = (stored_whole c.args.v.now (sym c.in_ok-check_stored.ensures)).at_most in
    let room : c.in_ok-n.n ≤ length c.simplify_positions.new.at = omega (arith, c.in_ok-n.ensures.1, most, c.simplify_positions.auto.at) in
    let whole = points_no_room c.args.v.now c.args.closed c.args.out.now c.in_ok-check_stored.ensures c.in_ok-n.n c.simplify_positions.new.at room
    c.in_ok-n.ensures.0 _ c.in_err-check_room.ensures in
    record { result_value = rw (p.1, p.2) whole.0; out_after = whole.1 }

pub slice_bounds-at-end : goal.slice_bounds-at-end
slice_bounds-at-end c =
    let most = (stored_whole c.args.v.now (sym c.in_ok-check_stored.ensures)).at_most in
    let room : c.in_ok-n.n ≤ length c.simplify_positions.new.at = omega (arith, c.in_ok-n.ensures.1, most, c.simplify_positions.auto.at) in
    room

pub slice_bounds-gather_vertices-end : goal.slice_bounds-gather_vertices-end
slice_bounds-gather_vertices-end c =
    let most = (stored_whole c.args.v.now (sym c.in_ok-check_stored.ensures)).at_most in
    let room : c.in_ok-n.n ≤ length c.simplify_positions.new.at = omega (arith, c.in_ok-n.ensures.1, most, c.simplify_positions.auto.at) in
    sym (length-take-le _ _ room)

pub gather_vertices-requires : goal.gather_vertices-requires
gather_vertices-requires c =
    let most = (stored_whole c.args.v.now (sym c.in_ok-check_stored.ensures)).at_most in
    let room : c.in_ok-n.n ≤ length c.simplify_positions.new.at = omega (arith, c.in_ok-n.ensures.1, most, c.simplify_positions.auto.at) in
    let fits = room_fits (3 * c.in_ok-n.n) (length c.args.out.now) (sym c.in_ok-check_room.ensures) in
    (left-within c.args.v.now c.args.closed _ c.in_ok-n.ensures.0, omega (arith, length-take-le c.in_ok-n.n c.simplify_positions.new.at room, fits))

pub returns : goal.returns
returns c =
    let most = (stored_whole c.args.v.now (sym c.in_ok-check_stored.ensures)).at_most in
    let room : c.in_ok-n.n ≤ length c.simplify_positions.new.at = omega (arith, c.in_ok-n.ensures.1, most, c.simplify_positions.auto.at) in
    let whole = points_done c.args.v.now c.args.closed c.args.out.now c.in_ok-check_stored.ensures c.in_ok-n.n c.simplify_positions.new.at room
    c.in_ok-n.ensures.0 _ c.in_ok-check_room.ensures c.gather_vertices.ensures in
    record { result_value = whole.0; out_after = whole.1 }
