-- The midpoints written one after the other: after k turns those of the first k legs are written. Assumes nothing.
use native.Mathlib.Omega.{arith}
use Rattle.arcstring_measure.proofs.Midpoints.{midpoints_none, midpoints-step}
use Rattle.arcstring_measure.proofs.measure.put_midpoints.Goals as goal

pub loop-k-init : goal.loop-k-init
loop-k-init c = midpoints_none _ _

pub loop-k-preserved : goal.loop-k-preserved
loop-k-preserved c =
    midpoints-step c.args.string.v.now c.args.string.n c.loop-k.k _ _ _ _ _ c.args.string.whole (omega arith) c.loop-k.invariant c.leg_at.ensures
    c.midpoint_of.ensures c.put_vertex.ensures
