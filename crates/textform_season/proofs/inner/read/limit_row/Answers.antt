-- `limit_row` takes a row of the limit before the first track, by `Held`. Assumes nothing.
use mathlib.Core.Path.{◌∙◌}
use Rattle.textform_season.specs.Held.{held_season}
use Rattle.textform_season.proofs.inner.read.Held.{before_tracks, after_track}
use Rattle.textform_season.proofs.inner.read.limit_row.Goals as goal

pub returns-then-r-gt0 : goal.returns-then-r-gt0
returns-then-r-gt0 c limit track out = c.malformed.ensures limit track out ∙ after_track (held_season c.args.r limit track out) c.if-r-gt0.true

pub returns : goal.returns
returns c limit track out = c.on_in_row.ensures limit track out ∙ before_tracks (held_season c.args.r limit track out) c.if-r-gt0.false
