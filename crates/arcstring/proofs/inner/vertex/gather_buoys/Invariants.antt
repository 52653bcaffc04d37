-- `gather_buoys` writes the numbers at the positions: after i turns those of the first i. Assumes nothing.
use mathlib.Core.Path.{◌≡◌}
use mathlib.Core.List.{map}
use lib.ListN.{take}
use Rattle.arcstring.specs.Splice.{splice}
use Rattle.arcstring.specs.Positions.{buoy_at}
use Rattle.arcstring.proofs.inner.vertex.gather_buoys.Given as goal

abbrev pub invariant-loop-i : goal.invariant-loop-i
invariant-loop-i l = l.out ≡ splice l.initial.out 0 (map (buoy_at l.buoys) (take l.i l.at))
