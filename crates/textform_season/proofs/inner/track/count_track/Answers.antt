-- `count_track` counts a track with the limit, and puts its line or its refusal, by `TrackLines`. Assumes nothing.
use mathlib.Core.Path.{sym}
use Rattle.std.proofs.lemmas.Result.{err_from_is_err_and}
use Rattle.textform_season.specs.Kept.{held_lines}
use Rattle.textform_season.proofs.TrackCounts.{pairs_of_track}
use Rattle.textform_season.proofs.inner.track.TrackLines.{track_counted, track_refused}
use Rattle.textform_season.proofs.inner.track.count_track.Goals as goal

pub with_track-requires : goal.with_track-requires
with_track-requires c =
    let few = pairs_of_track c.args.track.now c.args.limit.now _ (sym c.in_ok-counts.ensures) in
    (c.requires.le_n.0, c.requires.le_n.1, c.requires.le_n.2, few)

pub returns : goal.returns
returns c =
    let held = held_lines c.args.lines c.args.out.now in
    record {
      out_after = track_counted c.args.limit.now c.args.track.now c.args.n held _ _ c.in_ok-counts.ensures c.with_track.ensures.0;
      tracks_sound = c.with_track.ensures.1;
    }

pub returns-in_err-counts : goal.returns-in_err-counts
returns-in_err-counts c =
    let p = err_from_is_err_and c.from_residual.result c.from_residual.ensures.1 in
    rw (p.1, p.2) record {
      out_after = track_refused c.args.limit.now c.args.track.now c.args.n (held_lines c.args.lines c.args.out.now) _ c.in_err-counts.ensures;
      tracks_sound = tt;
    }
