-- `midpoints` answers as its checks do, and else writes the midpoint of each leg. Assumes nothing.
use mathlib.Core.Path.{sym, ◌∙◌}
use Rattle.arcstring_check.proofs.Answers.{left}
use Rattle.arcstring_check.proofs.Rooms.{room_fits}
use Rattle.arcstring_measure.proofs.Midpoints.{midpoints_some, refused_midpoints, accepted_triples, cramped_midpoints, written_midpoints}
use Rattle.arcstring_measure.proofs.measure.midpoints.Goals as goal

pub returns-in_err-check_midpoints : goal.returns-in_err-check_midpoints
returns-in_err-check_midpoints c =
    let whole = refused_midpoints c.args.v.now c.args.closed c.args.out.now _ c.in_err-check_midpoints.ensures in
    record { result_value = left _ _ c.from_residual.ensures.1 ∙ whole.0; out_after = whole.1 }

pub leg_count-l-requires : goal.leg_count-l-requires
leg_count-l-requires c = midpoints_some _ _ (sym c.in_ok-check_midpoints.ensures)

pub returns-in_err-check_room : goal.returns-in_err-check_room
returns-in_err-check_room c =
    let whole = cramped_midpoints c.args.v.now c.args.closed c.args.out.now c.in_ok-check_midpoints.ensures _ c.leg_count-l.ensures.0
    c.leg_count-l.ensures.1 _ c.in_err-check_room.ensures in
    record { result_value = left _ _ c.from_residual-in_err-check_room.ensures.1 ∙ whole.0; out_after = whole.1 }

pub invariant_of-put_midpoints : goal.invariant_of-put_midpoints
invariant_of-put_midpoints c = record { whole = accepted_triples _ c.args.closed c.args.out.now c.in_ok-check_midpoints.ensures }

pub put_midpoints-requires : goal.put_midpoints-requires
put_midpoints-requires c = (c.leg_count-l.ensures.1, room_fits _ _ (sym c.in_ok-check_room.ensures))

pub returns : goal.returns
returns c =
    let whole = written_midpoints c.args.v.now c.args.closed c.args.out.now c.in_ok-check_midpoints.ensures _ c.leg_count-l.ensures.0
    c.leg_count-l.ensures.1 _ c.in_ok-check_room.ensures c.put_midpoints.ensures in
    record { result_value = whole.0; out_after = whole.1 }
