-- `move_on` moves items on, the last one first: before each turn those from i on have been moved. Assumes nothing.
use mathlib.Core.Path.{◌≡◌}
use Prim.Native.Nat.{◌+◌, ◌-◌, ◌≤◌}
use lib.ListN.{take, drop}
use Rattle.arcstring.specs.Splice.{splice}
use Rattle.arcstring_insert.proofs.inner.move_on.Given as goal

abbrev pub invariant-loop-i : goal.invariant-loop-i
invariant-loop-i g l = (l.from ≤ l.i) × (l.list ≡ splice l.initial.list (l.i + l.by) (take (l.to - l.i) (drop l.i l.initial.list)))
