-- `restart` answers as its checks do, and else writes the vertices and their numbers from the start on that it was given. Assumes nothing.
use mathlib.Core.Path.{◌≡◌, ◌∙◌}
use Prim.Native.Nat.{◌*◌, ◌/◌}
use native.Mathlib.Omega.{arith}
use lib.ListN.{length}
use Rattle.arcstring_check.proofs.Answers.{left}
use Rattle.arcstring_check.proofs.Rooms.{rooms_hold}
use Rattle.arcstring_walk.proofs.Walks.{accepted_triples, accepted_buoys, restart-within, restart_refused, restart_short, restart_written}
use Rattle.arcstring_walk.proofs.walk.restart.Goals as goal

pub returns-in_err-check_string : goal.returns-in_err-check_string
returns-in_err-check_string c =
    let whole = restart_refused c.args.v.now c.args.out.now c.args.buoys.now c.args.out_buoys.now c.args.closed c.args.at _
    c.in_err-check_string.ensures in
    record { result_value = left _ _ c.from_residual.ensures.1 ∙ whole.0; out_after = whole.1.0; out_buoys_after = whole.1.1 }

pub returns-in_err-check_rooms : goal.returns-in_err-check_rooms
returns-in_err-check_rooms c =
    let whole = restart_short c.args.v.now c.args.out.now c.args.buoys.now c.args.out_buoys.now c.args.closed c.args.at
    c.in_ok-check_string.ensures _ c.in_err-check_rooms.ensures in
    record {
      result_value = left _ _ c.from_residual-in_err-check_rooms.ensures.1 ∙ whole.0;
      out_after = whole.1.0;
      out_buoys_after = whole.1.1;
    }

pub rotate-requires : goal.rotate-requires
rotate-requires c =
    let whole : length c.args.v.now ≡ 3 * (length c.args.v.now / 3) = accepted_triples _ c.args.buoys.now c.in_ok-check_string.ensures in
    let within = restart-within c.args.closed c.args.at (length c.args.v.now / 3) _ c.restart_vertex-k.ensures in
    let room = (rooms_hold _ _ _ c.in_ok-check_rooms.ensures).0 in
    (omega arith, omega arith)

pub rotate-requires-2 : goal.rotate-requires-2
rotate-requires-2 c =
    let same = accepted_buoys c.args.v.now c.args.buoys.now c.in_ok-check_string.ensures in
    let within = restart-within c.args.closed c.args.at (length c.args.v.now / 3) _ c.restart_vertex-k.ensures in
    let room = (rooms_hold _ _ _ c.in_ok-check_rooms.ensures).1 in
    (omega arith, omega arith)

pub returns : goal.returns
returns c =
    let whole = restart_written c.args.v.now c.args.out.now c.args.buoys.now c.args.out_buoys.now c.args.closed c.args.at
    c.in_ok-check_string.ensures _ _ _ c.restart_vertex-k.ensures c.in_ok-check_rooms.ensures c.rotate.ensures c.rotate-2.ensures in
    record { result_value = whole.0; out_after = whole.1.0; out_buoys_after = whole.1.1 }
