-- `check::check_point` meets its contract, whichever way its test goes. Assumes nothing.
use mathlib.Core.Bool.{true, false}
use Rattle.arcstring_check.proofs.Checks.{point_by_range}
use Rattle.arcstring_check.proofs.inner.checks.check_point.Goals as goal

pub returns-then-in_range : goal.returns-then-in_range
returns-then-in_range c = point_by_range _ true (cc)

pub returns-else-in_range : goal.returns-else-in_range
returns-else-in_range c = point_by_range _ false (cc)
