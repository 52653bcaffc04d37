-- `third_position` gives the next vertex, and vertex 2 for the last. Assumes nothing.
use native.Mathlib.Omega.{arith}
use Rattle.arcstring_rounds.proofs.inner.Judgements.{third_next, third_of_last}
use Rattle.arcstring_rounds.proofs.inner.third_position.Goals as goal

pub returns-then-k-n : goal.returns-then-k-n
returns-then-k-n c = (third_next _ _ (omega arith), omega arith)

pub returns-else-k-n : goal.returns-else-k-n
returns-else-k-n c = (third_of_last _ _ (omega arith), omega arith)
