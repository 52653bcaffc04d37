-- What is claimed of the numbers that vertices carry, for cutting at marks. Definitions only. The proof is `cut_without` of `proofs/CutsWithout.antt`. That
-- vertices keep their numbers, and a mark brings its own into both pieces, stands in `CutLaws`, which is over vertices that carry numbers.
use Rattle.std.specs.Prelude.{◌≡◌, Bool, List, ℕ, Float}
use Rattle.arcstring_check.specs.Answer.{map_answer}
use Rattle.arcstring.specs.Points.{itself, unnumbered, points}
use Rattle.arcstring_split_leg.specs.SplitLeg.{each_piece}
use Rattle.arcstring_mark_cut.specs.CutAtMarks.{opened, cut_at_each, cut_checked, cut_at_marks}

-- with the numbers taken off: the call over points, after the same checks; the pieces' vertices, near lists and flags
abbrev pub CutWithout : Type 0
CutWithout =
    (v : List Float) (buoys : List ℕ) (closed : Bool) (extra : List Float) (extra_buoys : List ℕ) (room buoy_room counts_room : ℕ)
    → map_answer (each_piece unnumbered) (cut_at_marks v buoys closed extra extra_buoys room buoy_room counts_room)
    ≡ cut_checked itself v buoys extra extra_buoys room buoy_room counts_room (cut_at_each itself (points extra) (opened (points v) closed))
