-- `walk_back` answers as its checks do, and else writes the vertices and their numbers backwards. Assumes nothing.
use mathlib.Core.Path.{◌∙◌}
use native.Mathlib.Omega.{arith}
use Rattle.arcstring_check.proofs.Answers.{left}
use Rattle.arcstring_check.proofs.Rooms.{rooms_hold}
use Rattle.arcstring_walk.proofs.Walks.{accepted_triples, accepted_buoys, back_refused, back_short, back_written}
use Rattle.arcstring_walk.proofs.walk.walk_back.Goals as goal

pub returns-in_err-check_string : goal.returns-in_err-check_string
returns-in_err-check_string c =
    let whole = back_refused c.args.v.now c.args.out.now c.args.buoys.now c.args.out_buoys.now _ c.in_err-check_string.ensures in
    record { result_value = left _ _ c.from_residual.ensures.1 ∙ whole.0; out_after = whole.1.0; out_buoys_after = whole.1.1 }

pub returns-in_err-check_rooms : goal.returns-in_err-check_rooms
returns-in_err-check_rooms c =
    let whole = back_short c.args.v.now c.args.out.now c.args.buoys.now c.args.out_buoys.now c.in_ok-check_string.ensures _
    c.in_err-check_rooms.ensures in
    record {
      result_value = left _ _ c.from_residual-in_err-check_rooms.ensures.1 ∙ whole.0;
      out_after = whole.1.0;
      out_buoys_after = whole.1.1;
    }

pub invariant_of-reverse_vertices : goal.invariant_of-reverse_vertices
invariant_of-reverse_vertices c = record { whole = accepted_triples _ c.args.buoys.now c.in_ok-check_string.ensures }

pub reverse_vertices-requires : goal.reverse_vertices-requires
reverse_vertices-requires c = (rooms_hold _ _ _ c.in_ok-check_rooms.ensures).0

pub reverse_buoys-requires : goal.reverse_buoys-requires
reverse_buoys-requires c =
    let room = (rooms_hold _ _ _ c.in_ok-check_rooms.ensures).1 in
    omega (arith, accepted_buoys c.args.v.now c.args.buoys.now c.in_ok-check_string.ensures)

pub returns : goal.returns
returns c =
    let whole = back_written c.args.v.now c.args.out.now c.args.buoys.now c.args.out_buoys.now c.in_ok-check_string.ensures _ _ c.in_ok-check_rooms.ensures
    c.reverse_vertices.ensures c.reverse_buoys.ensures in
    record { result_value = whole.0; out_after = whole.1.0; out_buoys_after = whole.1.1 }
