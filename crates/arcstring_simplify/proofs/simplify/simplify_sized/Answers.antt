-- `simplify_sized` gathers what stands at the positions that the rounds leave. Assumes nothing.
use Rattle.std.proofs.lemmas.Result.{err_from_is_err_and}
use mathlib.Core.Path.{sym, subst}
use Prim.Native.Nat.{ℕ, ◌≤◌}
use native.Mathlib.Omega.{arith}
use lib.ListN.{length, take}
use lib.Seq.{length-take-le}
use Rattle.arcstring.specs.Positions.{Within}
use Rattle.arcstring_check.proofs.Checks.{as_many_buoys}
use Rattle.arcstring_check.proofs.Rooms.{room_fits}
use Rattle.arcstring_rounds.proofs.Left.{left-within}
use Rattle.arcstring_simplify.proofs.Simplifies.{simplify_past_end, simplify_no_room, simplify_no_buoy_room, simplify_done}
use Rattle.arcstring_simplify.proofs.simplify.simplify_sized.Goals as goal

pub whole_as_slice-simplify_positions : goal.whole_as_slice-simplify_positions
whole_as_slice-simplify_positions g c = omega (arith, c.requires.2)

pub whole_as_slice-simplify_positions-2 : goal.whole_as_slice-simplify_positions-2
whole_as_slice-simplify_positions-2 g c = omega (arith, c.requires.2)

pub returns-in_err-n : goal.returns-in_err-n
returns-in_err-n g c =
    let p = err_from_is_err_and c.from_residual.result c.from_residual.ensures.1 in
    let whole = simplify_past_end c.args.v.now c.args.buoys.now c.args.closed c.args.out.now c.args.out_buoys.now c.requires.0 _ c.in_err-n.ensures.0 in
    record { result_value = rw (p.1, p.2) whole.0; out_after = whole.1.0; out_buoys_after = whole.1.1 }

pub returns-in_err-check_room : goal.returns-in_err-check_room
returns-in_err-check_room g c =
    let p = err_from_is_err_and c.from_residual-in_err-check_room.result c.from_residual-in_err-check_room.ensures.1 in
    let room : c.in_ok-n.n ≤ length c.simplify_positions.new.at = omega (arith, c.in_ok-n.ensures.1, c.simplify_positions.auto.at) in
    let whole = simplify_no_room c.args.v.now c.args.buoys.now c.args.closed c.args.out.now c.args.out_buoys.now c.requires.0
    _ c.simplify_positions.new.at room c.in_ok-n.ensures.0 _ c.in_err-check_room.ensures in
    record { result_value = rw (p.1, p.2) whole.0; out_after = whole.1.0; out_buoys_after = whole.1.1 }

pub returns-in_err-check_room-2 : goal.returns-in_err-check_room-2
returns-in_err-check_room-2 g c =
    let p = err_from_is_err_and c.from_residual-in_err-check_room-2.result c.from_residual-in_err-check_room-2.ensures.1 in
    let room : c.in_ok-n.n ≤ length c.simplify_positions.new.at = omega (arith, c.in_ok-n.ensures.1, c.simplify_positions.auto.at) in
    let whole = simplify_no_buoy_room c.args.v.now c.args.buoys.now c.args.closed c.args.out.now c.args.out_buoys.now c.requires.0
    _ c.simplify_positions.new.at room c.in_ok-n.ensures.0 _ c.in_err-check_room-2.ensures in
    record { result_value = rw (p.1, p.2) whole.0; out_after = whole.1.0; out_buoys_after = whole.1.1 }

pub shared_whole_as_front-gather_vertices : goal.shared_whole_as_front-gather_vertices
shared_whole_as_front-gather_vertices g c = (omega (arith, c.in_ok-n.ensures.1), omega (arith, c.requires.2))

pub gather_vertices-requires : goal.gather_vertices-requires
gather_vertices-requires g c =
    let room : c.in_ok-n.n ≤ length c.simplify_positions.new.at = omega (arith, c.in_ok-n.ensures.1, c.simplify_positions.auto.at) in
    let fits = room_fits _ _ (sym c.in_ok-check_room.ensures) in
    (left-within c.args.v.now c.args.closed _ c.in_ok-n.ensures.0, omega (arith, length-take-le c.in_ok-n.n c.simplify_positions.new.at room, fits))

pub shared_whole_as_front-gather_buoys : goal.shared_whole_as_front-gather_buoys
shared_whole_as_front-gather_buoys g c = (omega (arith, c.in_ok-n.ensures.1), omega (arith, c.requires.2))

pub gather_buoys-requires : goal.gather_buoys-requires
gather_buoys-requires g c =
    let room : c.in_ok-n.n ≤ length c.simplify_positions.new.at = omega (arith, c.in_ok-n.ensures.1, c.simplify_positions.auto.at) in
    let fits = room_fits c.in_ok-n.n (length c.args.out_buoys.now) (sym c.in_ok-check_room-2.ensures) in (
      subst (λ (m : ℕ). Within m (take c.in_ok-n.n c.simplify_positions.new.at)) (sym (as_many_buoys c.args.v.now c.args.buoys.now c.requires.0))
          (left-within c.args.v.now c.args.closed _ c.in_ok-n.ensures.0),
      omega (arith, length-take-le c.in_ok-n.n c.simplify_positions.new.at room, fits),
    )

pub returns : goal.returns
returns g c =
    let room : c.in_ok-n.n ≤ length c.simplify_positions.new.at = omega (arith, c.in_ok-n.ensures.1, c.simplify_positions.auto.at) in
    let whole = simplify_done c.args.v.now c.args.buoys.now c.args.closed c.args.out.now c.args.out_buoys.now c.requires.0
    _ c.simplify_positions.new.at room c.in_ok-n.ensures.0 c.in_ok-check_room.ensures _ _ c.in_ok-check_room-2.ensures
    c.gather_vertices.ensures c.gather_buoys.ensures in
    record { result_value = whole.0; out_after = whole.1.0; out_buoys_after = whole.1.1 }
