-- What the season report holds, and prints, of an input that it reads in pieces, one after another (textform's `Pieces`). Definitions only.
use Rattle.std.specs.Prelude.{◌≡◌, List, ℕ, Float, Option}
use Rattle.textform.specs.Pieces.{OfReads}
use Rattle.textform_season.specs.declared.inner.reading.Reading.{Reading}
use Rattle.textform_season.specs.Kept.{kept_start, kept_fed}
use Rattle.textform_season.specs.Held.{held_season}
use Rattle.textform_season.specs.Output.{output}

-- the reading and the three lists hold what was kept of the pieces that were read, one after another
abbrev pub SeasonOfPieces : Option (List ℕ) → Option (List ℕ) → Reading → List Float → List Float → List ℕ → Type 0
SeasonOfPieces before after r limit track out = OfReads before after (λ (bytes : List ℕ). held_season r limit track out ≡ kept_fed kept_start bytes)

-- the text is what is printed for the pieces that were read, one after another
abbrev pub ReportOfPieces : Option (List ℕ) → Option (List ℕ) → List ℕ → Type 0
ReportOfPieces before after text = OfReads before after (λ (bytes : List ℕ). text ≡ output bytes)
