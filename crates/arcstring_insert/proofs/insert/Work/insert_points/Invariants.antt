-- `insert_points` puts in each of the vertices in turn: those left, put in among the vertices that stand in the lists, give the whole answer. Assumes nothing.
use mathlib.Core.Path.{◌≡◌}
use lib.ListN.{drop}
use Rattle.arcstring.specs.Points.{numbered, place_of, points}
use Rattle.arcstring_insert.specs.Steps.{for_each}
use Rattle.arcstring_insert.specs.Insert.{insert_point, inserted}
use Rattle.arcstring_insert.specs.Worked.{standing}
use Rattle.arcstring_insert.proofs.insert.Work.insert_points.Given as goal

abbrev pub invariant-loop-i : goal.invariant-loop-i
invariant-loop-i l =
    for_each (insert_point place_of l.closed) (drop l.i (numbered (points l.extra.v.now) l.extra.buoys.now)) (standing l.self)
    ≡ inserted place_of l.closed (numbered (points l.extra.v.now) l.extra.buoys.now) (standing l.initial.self)
