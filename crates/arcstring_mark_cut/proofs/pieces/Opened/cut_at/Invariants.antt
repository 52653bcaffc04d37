-- `cut_at` walks over the pieces: what the mark makes of those from k on, behind those before, is the whole answer. Assumes nothing.
use mathlib.Core.Path.{◌≡◌}
use lib.ListN.{take, drop}
use Rattle.arcstring.specs.Points.{place_of}
use Rattle.arcstring_piece.specs.Pieces.{sum}
use Rattle.arcstring_mark_cut.specs.CutAtMarks.{cut_first, checked_cut, cut_at_mark}
use Rattle.arcstring_mark_cut.specs.OpenedPieces.{pieces_of}
use Rattle.arcstring_mark_cut.proofs.MarkWalks.{behind}
use Rattle.arcstring_mark_cut.proofs.pieces.Opened.cut_at.Given as goal

abbrev pub invariant-loop-k : goal.invariant-loop-k
invariant-loop-k l =
    let ps = pieces_of l.self in
    (l.self.count ≡ l.initial.self.count) × (l.at ≡ sum (take l.k l.self.counts))
    × (checked_cut place_of ps (behind (take l.k ps) (cut_first place_of l.x (drop l.k ps))) ≡ cut_at_mark place_of l.x (pieces_of l.initial.self))
