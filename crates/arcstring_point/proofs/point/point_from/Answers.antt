-- `point::point_from` refuses as its check does, and else answers as the vector layer does. Assumes nothing.
use mathlib.Core.Path.{ap, ◌∙◌}
use Rattle.arcstring_check.specs.Answer.{answered}
use Rattle.arcstring_check.proofs.Answers.{left, stopped, went_on}
use Rattle.arcstring_point.specs.Point.{built_point}
use Rattle.arcstring_point.proofs.point.point_from.Goals as goal

pub returns-in_err-check_point : goal.returns-in_err-check_point
unfolding built_point
returns-in_err-check_point c = left _ _ c.from_residual.ensures.1 ∙ stopped _ _ _ c.in_err-check_point.ensures

pub returns : goal.returns
unfolding built_point
returns c = ap answered c.from.ensures ∙ went_on _ _ c.in_ok-check_point.ensures
