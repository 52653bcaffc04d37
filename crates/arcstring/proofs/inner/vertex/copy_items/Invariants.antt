-- `copy_items` copies a run of items: before each turn the first i of the run are written. Assumes nothing.
use mathlib.Core.Path.{◌≡◌}
use lib.ListN.{take, drop}
use Rattle.arcstring.specs.Splice.{splice}
use Rattle.arcstring.proofs.inner.vertex.copy_items.Given as goal

abbrev pub invariant-loop-i : goal.invariant-loop-i
invariant-loop-i g l = l.out ≡ splice l.initial.out l.to (take l.i (drop l.from l.list))
