-- `cut_at_points` cuts at each of the points in turn: those that are left, from the legs that stand in the list, give the whole answer. Assumes nothing.
use mathlib.Core.Path.{◌≡◌}
use lib.ListN.{drop}
use Rattle.arcstring.specs.Points.{points}
use Rattle.arcstring_insert.specs.Steps.{for_each}
use Rattle.arcstring_split_leg.specs.SplitLeg.{cut_legs}
use Rattle.arcstring_split_leg.specs.Worked.{standing}
use Rattle.arcstring_split_leg.proofs.cut_leg.Work.cut_at_points.Given as goal

abbrev pub invariant-loop-i : goal.invariant-loop-i
invariant-loop-i l =
    for_each cut_legs (drop l.i (points l.extra.v.now)) (standing l.self) ≡ for_each cut_legs (points l.extra.v.now) (standing l.initial.self)
