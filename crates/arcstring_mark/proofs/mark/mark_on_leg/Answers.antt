-- `mark_on_leg` refuses as its checks do, and else answers whether the leg holds the mark. Assumes nothing.
use mathlib.Core.Path.{ap, ◌∙◌}
use Rattle.arcstring_check.specs.Answer.{answered}
use Rattle.arcstring_check.proofs.Answers.{left, stopped, went_on}
use Rattle.arcstring_mark.specs.Mark.{on_leg}
use Rattle.arcstring_mark.proofs.mark.mark_on_leg.Goals as goal

pub returns-in_err-check_leg : goal.returns-in_err-check_leg
unfolding on_leg
returns-in_err-check_leg c = left _ _ c.from_residual.ensures.1 ∙ stopped _ _ _ c.in_err-check_leg.ensures

pub returns-in_err-check_point : goal.returns-in_err-check_point
unfolding on_leg
returns-in_err-check_point c =
    left _ _ c.from_residual-in_err-check_point.ensures.1 ∙ stopped _ _ _ c.in_err-check_point.ensures ∙ went_on _ _ c.in_ok-check_leg.ensures

pub returns : goal.returns
unfolding on_leg
returns c = ap answered c.arc_holds.ensures ∙ went_on _ _ c.in_ok-check_point.ensures ∙ went_on _ _ c.in_ok-check_leg.ensures
