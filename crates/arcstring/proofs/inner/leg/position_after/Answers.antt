-- The position after another, around the vertices. Assumes nothing.
use native.Mathlib.Omega.{arith}
use Rattle.arcstring.proofs.Legs.{after_next, after_last}
use Rattle.arcstring.proofs.inner.leg.position_after.Goals as goal

pub returns-then-k-n : goal.returns-then-k-n
returns-then-k-n c = (after_next _ _ c.if-k-n.true, omega arith)

pub returns-else-k-n : goal.returns-else-k-n
returns-else-k-n c = (after_last _ _ c.if-k-n.false, omega arith)
