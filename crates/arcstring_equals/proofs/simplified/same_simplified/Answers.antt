-- `same_simplified`: the copies of both strings simplified, and compared by `equals`. Assumes nothing.
use mathlib.Core.Path.{◌∙◌}
use Rattle.arcstring_check.proofs.Answers.{left}
use Rattle.arcstring_equals.proofs.Equals.{first_refused, second_refused, both_answered}
use Rattle.arcstring_equals.proofs.simplified.same_simplified.Goals as goal

pub returns-in_err-first : goal.returns-in_err-first
returns-in_err-first c = left _ _ c.from_residual.ensures.1 ∙ first_refused _ _ _ c.in_err-first.ensures

pub returns-in_err-second : goal.returns-in_err-second
returns-in_err-second c =
    left _ _ c.from_residual-in_err-second.ensures.1 ∙ second_refused _ _ _ c.in_ok-first.ensures _ c.in_err-second.ensures

pub returns : goal.returns
returns c = both_answered _ _ _ c.in_ok-first.ensures _ _ c.in_ok-second.ensures c.equals_strings.ensures
