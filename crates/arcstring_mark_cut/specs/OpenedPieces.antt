-- The pieces of a string that is being cut, what a cut answers by them, and what is handed over: for the contracts of inner functions. Definitions only.
use Rattle.std.specs.Prelude.{List, ℕ, map, Result, Ok, Err}
use Rattle.std.proofs.Math.Option.{Option}
use Rattle.arcstring_check.specs.declared.check.Refusal.{Refusal}
use Rattle.arcstring_check.specs.Answer.{Answer, refused, answered, refusal_number}
use Rattle.arcstring.specs.declared.inner.vertex.Vertex.{Vertex}
use Rattle.arcstring.specs.Points.{StringOf, place_of}
use Rattle.arcstring_split_leg.specs.SplitLeg.{unless_uncut}
use Rattle.arcstring_mark_cut.specs.declared.pieces.Opened.{Opened}
use Rattle.arcstring_mark_cut.specs.CutAtMarks.{open_string, cut_into}
use Rattle.arcstring_mark_cut.specs.Standing.{standing}

abbrev pub pieces_of : Opened → List (List Vertex)
pieces_of s = standing s.count s.v s.buoys s.counts

-- what a cut answers, and the pieces after it
abbrev pub still_standing : Result Unit Refusal → Opened → Answer (List (List Vertex))
still_standing (Ok u) s = answered (pieces_of s)
still_standing (Err e) s = refused (refusal_number e)

-- what a call answers once all marks are through
abbrev pub handed_over : Opened → ℕ → ℕ → ℕ → Answer (Option (List (StringOf Vertex)))
handed_over s room buoy_room counts_room = cut_into room buoy_room counts_room (unless_uncut (map (open_string place_of) (pieces_of s)))
