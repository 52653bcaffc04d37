-- `cut_at_each` takes the marks in turn: those that are left, from the pieces that stand in the string, give the whole answer. Assumes nothing.
use mathlib.Core.Path.{◌≡◌}
use lib.ListN.{drop}
use Rattle.arcstring.specs.Points.{numbered, place_of, points}
use Rattle.arcstring_insert.specs.Steps.{for_each}
use Rattle.arcstring_mark_cut.specs.CutAtMarks.{cut_at_mark}
use Rattle.arcstring_mark_cut.specs.OpenedPieces.{pieces_of}
use Rattle.arcstring_mark_cut.proofs.pieces.Opened.cut_at_each.Given as goal

abbrev pub invariant-loop-i : goal.invariant-loop-i
invariant-loop-i l =
    for_each (cut_at_mark place_of) (drop l.i (numbered (points l.marks.v.now) l.marks.buoys.now)) (pieces_of l.self)
    ≡ for_each (cut_at_mark place_of) (numbered (points l.marks.v.now) l.marks.buoys.now) (pieces_of l.initial.self)
