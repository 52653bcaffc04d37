-- `positions` writes the positions from 0 on: after i turns the first i. Assumes nothing.
use mathlib.Core.Path.{sym}
use native.Mathlib.Omega.{arith}
use Rattle.arcstring.proofs.Splices.{splice_nothing}
use Rattle.arcstring.proofs.Moves.{position-step, positions_all}
use Rattle.arcstring.proofs.inner.vertex.positions.Goals as goal

pub loop-i-init : goal.loop-i-init
loop-i-init c = sym (splice_nothing _ _)

pub loop-i-preserved : goal.loop-i-preserved
loop-i-preserved c = position-step c.loop-i.i c.args.at.now _ (omega arith) c.loop-i.invariant

pub returns : goal.returns
returns c = positions_all c.args.n c.loop-i.i c.args.at.now _ (omega arith) c.loop-i.invariant
