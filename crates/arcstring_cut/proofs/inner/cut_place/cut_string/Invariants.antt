-- `cut_string` walks over the places that there are before the point; each starts where the one before it ends. Assumes nothing.
use mathlib.Core.Path.{◌≡◌}
use lib.ListN.{take}
use Rattle.arcstring.specs.Points.{place_of}
use Rattle.arcstring_build.specs.Build.{built_numbered}
use Rattle.arcstring_insert.specs.Steps.{for_positions}
use Rattle.arcstring_piece.specs.Cut.{cut_place}
use Rattle.arcstring_piece.specs.Pieces.{sum}
use Rattle.arcstring_piece.specs.Standing.{standing}
use Rattle.arcstring_cut.proofs.inner.cut_place.CutWalks.{Walks}
use Rattle.arcstring_cut.proofs.inner.cut_place.cut_string.Given as goal

abbrev pub invariant-loop-k : goal.invariant-loop-k
invariant-loop-k l =
    record {
      starts : l.at ≡ sum (take l.k l.pieces.counts);
      walks : let step = cut_place place_of built_numbered l.x in
          Walks step (for_positions step 0 l.k-end (standing l.initial.pieces)) l.initial.pieces.count l.k-end l.k l.pieces;
    }
