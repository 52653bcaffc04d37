-- `cut_at_points` cuts at each of the points in turn: what is left to do from the pieces that stand there gives the whole answer. Assumes nothing.
use mathlib.Core.Path.{◌≡◌}
use lib.ListN.{drop}
use Rattle.arcstring.specs.Points.{numbered, place_of, points}
use Rattle.arcstring_build.specs.Build.{built_numbered}
use Rattle.arcstring_insert.specs.Steps.{for_each}
use Rattle.arcstring_piece.specs.Cut.{cut_string}
use Rattle.arcstring_piece.specs.Standing.{standing}
use Rattle.arcstring_cut.proofs.inner.cut_place.cut_at_points.Given as goal

abbrev pub invariant-loop-i : goal.invariant-loop-i
invariant-loop-i l =
    for_each (cut_string place_of built_numbered) (drop l.i (numbered (points l.extra.v.now) l.extra.buoys.now)) (standing l.pieces)
    ≡ for_each (cut_string place_of built_numbered) (numbered (points l.extra.v.now) l.extra.buoys.now) (standing l.initial.pieces)
