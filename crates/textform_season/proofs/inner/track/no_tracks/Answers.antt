-- `no_tracks` writes the heading, by `TrackLines`. Assumes nothing.
use Rattle.textform_season.proofs.inner.track.TrackLines.{no_lines}
use Rattle.textform_season.proofs.inner.track.no_tracks.Goals as goal

pub returns : goal.returns
returns c = no_lines c.put_heading.result c.put_heading.new.out c.put_heading.ensures.0 c.put_heading.ensures.1
