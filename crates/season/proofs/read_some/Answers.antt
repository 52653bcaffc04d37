-- `read_some` feeds what the read gave, and nothing where it failed. Assumes nothing.
use Rattle.textform.specs.Kept.{keep}
use Rattle.textform.proofs.Pieces.{failed_fed}
use Rattle.textform_season.specs.Season.{step_with}
use Rattle.textform_season.specs.Kept.{end_track}
use Rattle.season.proofs.read_some.Goals as goal

pub returns-in_err-n-clause-fed : goal.returns-in_err-n-clause-fed
returns-in_err-n-clause-fed g c = failed_fed (step_with end_track keep) _ c.from_residual.result c.read.new.buf c.from_residual.ensures.0
