-- A margin is refused by 9 unless it is from 0 on and below the infinity. Assumes nothing.
use mathlib.Core.Bool.{true, false}
use Rattle.arcstring_check.proofs.Checks.{margin_tested}
use Rattle.arcstring_check.proofs.inner.checks.check_margin.Goals as goal

pub returns-then-margin : goal.returns-then-margin
returns-then-margin c = margin_tested _ true c.if-margin.true

pub returns-else-margin : goal.returns-else-margin
returns-else-margin c = margin_tested _ false c.if-margin.false
