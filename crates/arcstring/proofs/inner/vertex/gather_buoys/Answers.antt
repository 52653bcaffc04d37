-- `gather_buoys` writes the numbers at the positions: after i turns those of the first i. Assumes nothing.
use mathlib.Core.Path.{sym}
use native.Mathlib.Omega.{arith}
use Rattle.arcstring.specs.Positions.{buoy_at}
use Rattle.arcstring.proofs.Splices.{splice_nothing}
use Rattle.arcstring.proofs.Moves.{gather_step, gather_all}
use Rattle.arcstring.proofs.inner.vertex.gather_buoys.Goals as goal

pub loop-i-init : goal.loop-i-init
loop-i-init c = sym (splice_nothing _ _)

pub loop-i-preserved : goal.loop-i-preserved
loop-i-preserved c = gather_step (buoy_at c.args.buoys.now) c.args.at.now c.loop-i.i c.args.out.now _ (omega arith) (omega arith) c.loop-i.invariant

pub returns : goal.returns
returns c = gather_all (buoy_at c.args.buoys.now) c.args.at.now c.loop-i.i c.args.out.now _ (omega arith) c.loop-i.invariant
