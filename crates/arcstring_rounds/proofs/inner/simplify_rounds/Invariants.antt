-- `simplify_rounds` works round by round: what is left after each has the answer of the whole. Assumes nothing.
use mathlib.Core.Path.{◌≡◌}
use Prim.Native.Nat.{◌≤◌, ◌/◌}
use lib.ListN.{length, take}
use Rattle.arcstring.specs.Points.{point_at}
use Rattle.arcstring.specs.Positions.{Within}
use Rattle.arcstring_rounds.specs.Rounds.{simplified}
use Rattle.arcstring_rounds.proofs.inner.simplify_rounds.Given as goal

abbrev pub invariant-loop-m : goal.invariant-loop-m
invariant-loop-m l =
    (l.m ≤ length l.at) × (simplified (point_at l.v) l.closed (take l.m l.at) ≡ simplified (point_at l.v) l.closed l.initial.at)
    × Within (length l.v / 3) (take l.m l.at)

abbrev pub decreases-loop-m : goal.decreases-loop-m
decreases-loop-m l = l.m
