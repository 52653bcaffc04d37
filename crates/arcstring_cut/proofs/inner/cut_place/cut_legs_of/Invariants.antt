-- `cut_legs_of` walks over the legs of the copy: a leg that the point is not along changes nothing, and any other is a cut. Assumes nothing.
use mathlib.Core.Path.{◌≡◌}
use lib.ListN.{take}
use Rattle.arcstring_insert.specs.Steps.{for_positions}
use Rattle.arcstring_piece.specs.Standing.{standing}
use Rattle.arcstring_cut.proofs.inner.cut_place.CutWalks.{Walks, leg_step}
use Rattle.arcstring_cut.proofs.inner.cut_place.cut_legs_of.Given as goal

abbrev pub invariant-loop-i : goal.invariant-loop-i
invariant-loop-i l =
    record {
      before : take l.k l.pieces.counts ≡ take l.k l.initial.pieces.counts;
      walks : let step = leg_step l.x l.copy.v.now l.copy.buoys.now l.k in
          Walks step (for_positions step 0 l.legs (standing l.initial.pieces)) l.initial.pieces.count l.legs l.i l.pieces;
    }
