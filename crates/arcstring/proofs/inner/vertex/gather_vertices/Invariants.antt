-- `gather_vertices` writes the vertices at the positions: after i turns those of the first i. Assumes nothing.
use mathlib.Core.Path.{◌≡◌}
use mathlib.Core.List.{map}
use lib.ListN.{take}
use Rattle.arcstring.specs.Points.{point_at, flat}
use Rattle.arcstring.specs.Splice.{splice}
use Rattle.arcstring.proofs.inner.vertex.gather_vertices.Given as goal

abbrev pub invariant-loop-i : goal.invariant-loop-i
invariant-loop-i l = l.out ≡ splice l.initial.out 0 (flat (map (point_at l.v) (take l.i l.at)))
