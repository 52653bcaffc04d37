-- `reverse_vertices` writes the vertices last to first: after i turns the last i are written. Assumes nothing.
use mathlib.Core.Path.{◌≡◌}
use Prim.Native.Nat.{◌-◌}
use mathlib.Core.List.{reverse}
use lib.ListN.{drop}
use Rattle.arcstring.specs.Points.{points, flat}
use Rattle.arcstring.specs.Splice.{splice}
use Rattle.arcstring_walk.proofs.walk.reverse_vertices.Given as goal

abbrev pub invariant-loop-i : goal.invariant-loop-i
invariant-loop-i l = l.out ≡ splice l.initial.out 0 (flat (reverse (drop (l.string.n - l.i) (points l.string.v.now))))
