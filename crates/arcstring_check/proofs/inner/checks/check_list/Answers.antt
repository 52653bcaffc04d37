-- `check::check_list` meets its contract: each outcome of its tests is a law of `proofs/Checks.antt`. Assumes nothing.
use mathlib.Core.Path.{sym, ap, ◌∙◌}
use mathlib.Core.Bool.{true, false}
use Rattle.arcstring_check.proofs.Answers.{check_left}
use Rattle.arcstring_check.specs.Check.{check_number}
use Rattle.arcstring_check.proofs.Checks.{no_triples, few_refused, too_many, by_range}
use Rattle.arcstring_check.proofs.inner.checks.check_list.Goals as goal

pub returns-then-list-ne0 : goal.returns-then-list-ne0
returns-then-list-ne0 c = no_triples _ _ c.if-list-ne0.true

pub returns-in_err-few : goal.returns-in_err-few
returns-in_err-few c =
    check_left _ _ c.from_residual.ensures.1 ∙ few_refused _ _ _ c.if-list-ne0.false c.in_err-few.was

pub returns-then-list-gt-MOST_POINTS : goal.returns-then-list-gt-MOST_POINTS
returns-then-list-gt-MOST_POINTS c = too_many _ _ c.if-list-ne0.false (ap check_number c.in_ok-few.was) c.if-list-gt-MOST_POINTS.true

pub returns-then-all_in_range : goal.returns-then-all_in_range
returns-then-all_in_range c =
    by_range _ _ c.if-list-ne0.false (ap check_number c.in_ok-few.was) c.if-list-gt-MOST_POINTS.false true
    (sym c.all_in_range.ensures ∙ c.if-all_in_range.true)

pub returns-else-all_in_range : goal.returns-else-all_in_range
returns-else-all_in_range c =
    by_range _ _ c.if-list-ne0.false (ap check_number c.in_ok-few.was) c.if-list-gt-MOST_POINTS.false false
    (sym c.all_in_range.ensures ∙ c.if-all_in_range.false)
