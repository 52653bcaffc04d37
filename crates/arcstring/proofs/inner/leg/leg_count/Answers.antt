-- As many legs as vertices, or one fewer. Assumes nothing.
use native.Mathlib.Omega.{arith}
use Rattle.arcstring.proofs.Legs.{closed_count, open_count}
use Rattle.arcstring.proofs.inner.leg.leg_count.Goals as goal

pub returns-then-closed : goal.returns-then-closed
returns-then-closed c = (closed_count _ _ c.if-closed.true, omega arith)

pub returns-else-closed : goal.returns-else-closed
returns-else-closed c = (open_count _ _ c.if-closed.false, omega arith)
