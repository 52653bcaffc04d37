-- The midpoints written one after the other: after k turns those of the first k legs are written. Assumes nothing.
use mathlib.Core.Path.{◌≡◌}
use mathlib.Core.List.{map}
use Rattle.arcstring.specs.Points.{flat}
use Rattle.arcstring.specs.Splice.{splice}
use Rattle.arcstring.specs.Leg.{legs_from}
use Rattle.arcstring_measure.specs.Measure.{midpoint}
use Rattle.arcstring_measure.proofs.measure.put_midpoints.Given as goal

abbrev pub invariant-loop-k : goal.invariant-loop-k
invariant-loop-k l = l.out ≡ splice l.initial.out 0 (flat (map midpoint (legs_from l.string.v.now 0 l.k)))
