-- Finished pieces handed over from the lists that they stand in: for the contracts of inner functions. Definitions only.
use Rattle.std.specs.Prelude.{Bool, List, map, ℕ}
use Rattle.std.proofs.Math.Option.{Option}
use Rattle.arcstring_check.specs.Answer.{Answer, flag_number}
use Rattle.arcstring.specs.declared.inner.vertex.Vertex.{Vertex}
use Rattle.arcstring.specs.Points.{StringOf}
use Rattle.arcstring_split_leg.specs.SplitLeg.{unless_uncut}
use Rattle.arcstring_piece.specs.declared.inner.pieces.Pieces.{Pieces}
use Rattle.arcstring_piece.specs.Standing.{standing}
use Rattle.arcstring_split.specs.Split.{pieces_into}

-- flags as they are written: 0 for open, 1 for closed
abbrev pub flags_of : List Bool → List ℕ
flags_of flags = map flag_number flags

-- what a split answers once its pieces stand there
abbrev pub handed_over : Pieces → ℕ → ℕ → ℕ → ℕ → Answer (Option (List (StringOf Vertex)))
handed_over pieces room buoy_room counts_room flags_room = pieces_into room buoy_room counts_room flags_room (unless_uncut (standing pieces))
