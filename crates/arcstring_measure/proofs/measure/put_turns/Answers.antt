-- The turn orientations written one after the other: after k turns those of the first k vertices are written. Assumes nothing.
use native.Mathlib.Omega.{arith}
use Rattle.arcstring.specs.Points.{points}
use Rattle.arcstring_measure.proofs.Turns.{turns_none, turns_step}
use Rattle.arcstring_measure.proofs.measure.put_turns.Goals as goal

pub loop-k-init : goal.loop-k-init
loop-k-init c = turns_none _ _ _

pub loop-k-preserved : goal.loop-k-preserved
loop-k-preserved c =
    turns_step (points c.args.string.v.now) _ c.loop-k.k _ c.loop-k.out _ (omega arith) (omega arith) c.loop-k.invariant c.turn_at.ensures
