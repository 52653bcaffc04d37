-- A leg is checked at its start, then at its end. Assumes nothing.
use mathlib.Core.Path.{◌∙◌}
use Rattle.arcstring_check.proofs.Answers.{check_left}
use Rattle.arcstring.proofs.Legs.{leg_stopped, leg_went_on}
use Rattle.arcstring.proofs.inner.leg.check_leg.Goals as goal

pub returns-in_err-check_point : goal.returns-in_err-check_point
returns-in_err-check_point c = check_left _ _ c.from_residual.ensures.1 ∙ leg_stopped _ _ _ c.start_of.ensures c.in_err-check_point.ensures

pub returns : goal.returns
returns c = leg_went_on _ _ _ _ c.start_of.ensures c.in_ok-check_point.ensures c.end_of.ensures c.check_point-2.ensures
