-- `mark_on_string` refuses as its checks do, and else answers whether a leg holds the mark. Assumes nothing.
use mathlib.Core.Path.{sym, ap, ◌∙◌}
use Rattle.arcstring_check.specs.Answer.{answered}
use Rattle.arcstring_check.proofs.Answers.{left, stopped, went_on}
use Rattle.arcstring_mark.specs.Mark.{on_string}
use Rattle.arcstring_mark.proofs.mark.mark_on_string.Goals as goal

pub returns-in_err-check_stored : goal.returns-in_err-check_stored
unfolding on_string
returns-in_err-check_stored c = left _ _ c.from_residual.ensures.1 ∙ stopped _ _ _ c.in_err-check_stored.ensures

pub returns-in_err-check_point : goal.returns-in_err-check_point
unfolding on_string
returns-in_err-check_point c =
    left _ _ c.from_residual-in_err-check_point.ensures.1 ∙ stopped _ _ _ c.in_err-check_point.ensures ∙ went_on _ _ c.in_ok-check_stored.ensures

pub string_holds-requires : goal.string_holds-requires
string_holds-requires c = sym c.in_ok-check_stored.ensures

pub returns : goal.returns
unfolding on_string
returns c = ap answered c.string_holds.ensures ∙ went_on _ _ c.in_ok-check_point.ensures ∙ went_on _ _ c.in_ok-check_stored.ensures
