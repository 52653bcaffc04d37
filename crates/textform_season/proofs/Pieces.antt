-- The season report's input in pieces: a reading that has begun holds none, and what is printed at the end is the output of all. By textform's laws of pieces,
-- which say of one piece more what is held then. Assumes nothing.
use mathlib.Core.Path.{◌≡◌, refl}
use mathlib.Core.List.{List}
use Prim.Native.Nat.{ℕ}
use lib.Ieee.{Float}
use Rattle.std.specs.Prelude.{Option}
use Rattle.textform.specs.Text.{in_turn}
use Rattle.textform.proofs.Pieces as pieces
use Rattle.textform_season.specs.declared.inner.reading.Reading.{Reading}
use Rattle.textform_season.specs.Kept.{kept_start, kept_answer, printed_report}
use Rattle.textform_season.specs.Held.{held_season}
use Rattle.textform_season.specs.Pieces.{SeasonOfPieces, ReportOfPieces}
use Rattle.textform_season.proofs.inner.report.Reports.{whole_output}

-- before the first read
pub no_pieces : (x : Option (List ℕ)) (r : Reading) (limit track : List Float) (out : List ℕ) → held_season r limit track out ≡ kept_start
    → SeasonOfPieces x x r limit track out
unfolding in_turn
no_pieces x r limit track out h = pieces.no_reads x h

-- at the end
pub read_and_printed : (x y : Option (List ℕ)) (r : Reading) (limit track : List Float) (out text : List ℕ) → SeasonOfPieces x y r limit track out
    → text ≡ printed_report (kept_answer (held_season r limit track out)) → ReportOfPieces x y text
read_and_printed x y r limit track out text all h =
    pieces.same_pieces all (λ bytes held. (held.0, whole_output bytes text kept_start (held_season r limit track out) refl held.1 h))
