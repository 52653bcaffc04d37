-- `xyzs_turn_orientations` answers as its checks do, and else writes a float for each vertex. Assumes nothing.
use mathlib.Core.Path.{sym, ◌∙◌}
use Rattle.arcstring_check.proofs.Answers.{left}
use Rattle.arcstring_check.proofs.Checks.{stored_whole}
use Rattle.arcstring_check.proofs.Rooms.{room_fits}
use Rattle.arcstring_measure.proofs.Turns.{refused_turns, cramped_turns, written_turns}
use Rattle.arcstring_measure.proofs.measure.xyzs_turn_orientations.Goals as goal

pub returns-in_err-check_stored : goal.returns-in_err-check_stored
returns-in_err-check_stored c =
    let whole = refused_turns c.args.v.now c.args.closed c.args.out.now _ c.in_err-check_stored.ensures in
    record { result_value = left _ _ c.from_residual.ensures.1 ∙ whole.0; out_after = whole.1 }

pub returns-in_err-check_room : goal.returns-in_err-check_room
returns-in_err-check_room c =
    let whole = cramped_turns c.args.v.now c.args.closed c.args.out.now c.in_ok-check_stored.ensures _ c.in_err-check_room.ensures in
    record { result_value = left _ _ c.from_residual-in_err-check_room.ensures.1 ∙ whole.0; out_after = whole.1 }

pub invariant_of-put_turns : goal.invariant_of-put_turns
invariant_of-put_turns c = record { whole = (stored_whole _ (sym c.in_ok-check_stored.ensures)).triples }

pub put_turns-requires : goal.put_turns-requires
put_turns-requires c = room_fits _ _ (sym c.in_ok-check_room.ensures)

pub returns : goal.returns
returns c =
    let whole = written_turns c.args.v.now c.args.closed c.args.out.now c.in_ok-check_stored.ensures _ c.in_ok-check_room.ensures c.put_turns.ensures in
    record { result_value = whole.0; out_after = whole.1 }
