-- `read_and_report` concludes what was read whole, by textform_season's `Pieces`. Assumes nothing.
use Rattle.textform_season.proofs.Pieces.{read_and_printed}
use Rattle.season.proofs.read_and_report.Goals as goal

pub returns : goal.returns
returns g c = (
  c.in_ok-reading.ensures.0,
  read_and_printed _ _ c.in_ok-reading.reading c.read_all.new.limit c.read_all.new.track _ _ c.in_ok-reading.ensures.1 c.conclude.ensures.out_after,
  c.conclude.ensures.upper_bound,
)
