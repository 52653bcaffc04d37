-- The turn orientations written one after the other: after k turns those of the first k vertices are written. Assumes nothing.
use mathlib.Core.Path.{◌≡◌}
use Rattle.arcstring.specs.Points.{points}
use Rattle.arcstring.specs.Splice.{splice}
use Rattle.arcstring_measure.specs.Measure.{turns_to}
use Rattle.arcstring_measure.proofs.measure.put_turns.Given as goal

abbrev pub invariant-loop-k : goal.invariant-loop-k
invariant-loop-k l = l.out ≡ splice l.initial.out 0 (turns_to (points l.string.v.now) l.closed l.k)
