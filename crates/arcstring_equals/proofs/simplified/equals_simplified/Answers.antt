-- `equals_simplified`: the shorter string simplified first. Assumes nothing.
use mathlib.Core.Path.{◌∙◌}
use Rattle.arcstring_check.proofs.Answers.{left}
use Rattle.arcstring_equals.proofs.Equals.{shorter_refused, shorter_answered}
use Rattle.arcstring_equals.proofs.simplified.equals_simplified.Goals as goal

pub returns-in_err-copy : goal.returns-in_err-copy
returns-in_err-copy c = left _ _ c.from_residual.ensures.1 ∙ shorter_refused _ _ _ c.in_err-copy.ensures

pub returns : goal.returns
returns c = shorter_answered _ _ _ _ c.in_ok-copy.ensures c.equals_longer.ensures
