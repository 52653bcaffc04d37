-- `positions` writes the positions from 0 on: after i turns the first i. Assumes nothing.
use mathlib.Core.Path.{◌≡◌}
use Rattle.arcstring.specs.Splice.{splice}
use Rattle.arcstring.specs.Positions.{positions_from}
use Rattle.arcstring.proofs.inner.vertex.positions.Given as goal

abbrev pub invariant-loop-i : goal.invariant-loop-i
invariant-loop-i l = l.at ≡ splice l.initial.at 0 (positions_from 0 l.i)
