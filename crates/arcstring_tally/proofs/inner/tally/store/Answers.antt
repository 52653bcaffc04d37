-- What one pair keeps is written at a place: one point and its mark, or nothing. Assumes nothing.
use Rattle.arcstring_tally.proofs.Marks.{keeps_clean, keeps_kept, dropped_keeps_none, no_point_keeps_none, end_keeps_none, apart_keeps_none}
use Rattle.arcstring_tally.proofs.Marks.{room_for-one, one_written, none_written}
use Rattle.arcstring_tally.proofs.inner.tally.store.Goals as goal

pub put_mark-requires : goal.put_mark-requires
put_mark-requires c = room_for-one _ _ c.args.points.now c.args.marks.now _ (keeps_clean _ _ c.in-Clean.is) c.requires

pub returns-in-Clean : goal.returns-in-Clean
returns-in-Clean c =
    let w = one_written _ _ _ _ _ _ _ _ (keeps_clean _ _ c.in-Clean.is) (c.put_mark.ensures.points_after, c.put_mark.ensures.marks_after) in
    record { points_after = w.0; marks_after = w.1 }

pub put_mark-requires-in-Kept : goal.put_mark-requires-in-Kept
put_mark-requires-in-Kept c =
    room_for-one _ _ c.args.points.now c.args.marks.now _ (keeps_kept _ _ _ c.in-Grazing.is c.in-Kept.is) c.requires

pub returns-in-Kept : goal.returns-in-Kept
returns-in-Kept c =
    let w = one_written _ _ _ _ _ _ _ _ (keeps_kept _ _ _ c.in-Grazing.is c.in-Kept.is)
    (c.put_mark-in-Kept.ensures.points_after, c.put_mark-in-Kept.ensures.marks_after) in
    record { points_after = w.0; marks_after = w.1 }

pub returns-in-Dropped : goal.returns-in-Dropped
returns-in-Dropped c =
    let w = none_written _ _ _ _ (dropped_keeps_none _ _ _ c.in-Grazing.is c.in-Dropped.is) in
    record { points_after = w.0; marks_after = w.1 }

pub returns-in-None : goal.returns-in-None
returns-in-None c =
    let w = none_written _ _ _ _ (no_point_keeps_none _ _ c.in-Grazing.is c.in-None.is) in
    record { points_after = w.0; marks_after = w.1 }

pub returns-in-End : goal.returns-in-End
returns-in-End c =
    let w = none_written _ _ _ _ (end_keeps_none _ _ c.in-End.is) in
    record { points_after = w.0; marks_after = w.1 }

pub returns-in-Apart : goal.returns-in-Apart
returns-in-Apart c =
    let w = none_written _ _ _ _ (apart_keeps_none _ c.in-Apart.is) in
    record { points_after = w.0; marks_after = w.1 }
