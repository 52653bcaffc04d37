-- The position before another, around the vertices. Assumes nothing.
use native.Mathlib.Omega.{arith}
use Rattle.arcstring_measure.proofs.Turns.{before_first, before_other}
use Rattle.arcstring_measure.proofs.measure.position_before.Goals as goal

pub returns-then-k-eq0 : goal.returns-then-k-eq0
returns-then-k-eq0 c = (before_first _ _ c.if-k-eq0.true, omega arith)

pub returns-else-k-eq0 : goal.returns-else-k-eq0
returns-else-k-eq0 c = (before_other _ _ c.if-k-eq0.false, omega arith)
