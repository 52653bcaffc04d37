-- `next_track` ends the last track and begins the next, by `Held`. Assumes nothing.
use native.Mathlib.Omega.{arith}
use Rattle.textform_season.proofs.inner.read.Held.{next-held, next_sound}
use Rattle.textform_season.proofs.inner.read.next_track.Goals as goal

pub invariant_of-result : goal.invariant_of-result
invariant_of-result c =
    record { column_within = tt; few = omega arith; tracks_within = next_sound c.all_done.result c.args.r.last c.all_done.ensures.tracks_sound }

pub returns : goal.returns
returns c =
    next-held c.args.r c.args.limit.now c.args.track.now c.args.out.now c.all_done.result c.without_second.result _ c.all_done.ensures.out_after
    c.without_second.ensures
