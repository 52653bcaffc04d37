-- `point::xyzs_coplanar` refuses as its checks do, and else answers as the vector layer does. Assumes nothing.
use mathlib.Core.Path.{ap, ◌∙◌}
use Rattle.arcstring_check.specs.Answer.{answered}
use Rattle.arcstring_check.proofs.Answers.{left, stopped, went_on}
use Rattle.arcstring_point.specs.Point.{coplanar_points}
use Rattle.arcstring_point.proofs.point.xyzs_coplanar.Goals as goal

pub returns-in_err-check_point : goal.returns-in_err-check_point
unfolding coplanar_points
returns-in_err-check_point c = left _ _ c.from_residual.ensures.1 ∙ stopped _ _ _ c.in_err-check_point.ensures

pub returns-in_err-check_point-2 : goal.returns-in_err-check_point-2
unfolding coplanar_points
returns-in_err-check_point-2 c =
    left _ _ c.from_residual-in_err-check_point-2.ensures.1 ∙ stopped _ _ _ c.in_err-check_point-2.ensures ∙ went_on _ _ c.in_ok-check_point.ensures

pub returns-in_err-check_point-3 : goal.returns-in_err-check_point-3
unfolding coplanar_points
returns-in_err-check_point-3 c =
    left _ _ c.from_residual-in_err-check_point-3.ensures.1
    ∙ stopped _ _ _ c.in_err-check_point-3.ensures
    ∙ went_on _ _ c.in_ok-check_point-2.ensures
    ∙ went_on _ _ c.in_ok-check_point.ensures

pub returns : goal.returns
unfolding coplanar_points
returns c =
    ap answered c.xyzs_coplanar.ensures
    ∙ went_on _ _ c.in_ok-check_point-3.ensures
    ∙ went_on _ _ c.in_ok-check_point-2.ensures
    ∙ went_on _ _ c.in_ok-check_point.ensures
