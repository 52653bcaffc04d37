-- `point::xyz_eq` refuses as its checks do, and else answers as the vector layer does. Assumes nothing.
use mathlib.Core.Path.{ap, ◌∙◌}
use Rattle.arcstring_check.specs.Answer.{answered}
use Rattle.arcstring_check.proofs.Answers.{left, stopped, went_on}
use Rattle.arcstring_point.specs.Point.{equal_points}
use Rattle.arcstring_point.proofs.point.xyz_eq.Goals as goal

pub returns-in_err-check_point : goal.returns-in_err-check_point
unfolding equal_points
returns-in_err-check_point c = left _ _ c.from_residual.ensures.1 ∙ stopped _ _ _ c.in_err-check_point.ensures

pub returns-in_err-check_point-2 : goal.returns-in_err-check_point-2
unfolding equal_points
returns-in_err-check_point-2 c =
    left _ _ c.from_residual-in_err-check_point-2.ensures.1 ∙ stopped _ _ _ c.in_err-check_point-2.ensures ∙ went_on _ _ c.in_ok-check_point.ensures

pub returns : goal.returns
unfolding equal_points
returns c = ap answered c.xyz_eq.ensures ∙ went_on _ _ c.in_ok-check_point-2.ensures ∙ went_on _ _ c.in_ok-check_point.ensures
