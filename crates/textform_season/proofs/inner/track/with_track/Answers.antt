-- `with_track` puts a track's line after those before it, and adds its counts, by `TrackLines`. Assumes nothing.
use native.Mathlib.Omega.{arith}
use Rattle.textform_season.proofs.inner.track.TrackLines.{line_put}
use Rattle.textform_season.proofs.inner.track.with_track.Goals as goal

pub put_track-requires : goal.put_track-requires
put_track-requires c = (omega arith, omega arith)

pub returns : goal.returns
returns c =
    line_put c.args.lines c.args.n c.args.c c.requires.0 c.requires.2 c.requires.3 c.put_track.result _ c.args.out.now c.put_track.new.out
    c.put_track.ensures.0 c.put_track.ensures.1
    c.add_counts.ensures
