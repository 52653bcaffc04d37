-- `check::check_points` meets its contract, whichever way its test goes. Assumes nothing.
use mathlib.Core.Path.{◌∙◌}
use Rattle.arcstring_check.proofs.Checks.{points-not_as_many, points_as_many}
use Rattle.arcstring_check.proofs.inner.checks.check_points.Goals as goal

pub returns-then-buoys-list : goal.returns-then-buoys-list
returns-then-buoys-list c = c.check_list.ensures ∙ points-not_as_many _ _ c.if-buoys-list.true

pub returns : goal.returns
returns c = c.check_list-2.ensures ∙ points_as_many _ _ c.if-buoys-list.false
