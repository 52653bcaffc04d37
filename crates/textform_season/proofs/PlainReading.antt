-- The plain reading, which keeps all floats of all tracks, and where it may end: at the start of a row, before its first column. Assumes nothing.
use mathlib.Core.Path.{◌≡◌}
use mathlib.Core.Bool.{true}
use mathlib.Core.List.{List}
use lib.Dec.{eqb}
use lib.Ieee.{Float}
use borrow.Author.Tests.{eqb-true}
use Rattle.textform.specs.Text.{row_start}
use Rattle.textform.specs.Text as Text
use Rattle.textform_count.proofs.KeptCounts.{both_true}
use Rattle.textform_season.specs.Season.{Season, is_empty, well_formed}

abbrev pub Plain : Type 0
Plain = Season (List (List Float))

pub between_rows : (s : Plain) → well_formed s ≡ true → (s.text.place ≡ row_start) × (is_empty s.column ≡ true)
unfolding well_formed Text.well_formed
between_rows s ends =
    let both = both_true (eqb s.text.place row_start) (is_empty s.column) ends in
    (eqb-true s.text.place row_start both.0, both.1)
