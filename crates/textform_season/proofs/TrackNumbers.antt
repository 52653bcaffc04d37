-- No more than 1,000 tracks are read, and there are as many as the last one's number says, as `specs/SeasonLaws.antt` has it. Assumes nothing.
use mathlib.Core.Path.{◌≡◌, refl}
use mathlib.Core.Bool.{Bool, true, false}
use mathlib.Core.List.{List, [], ◌∷◌}
use mathlib.Core.Option.{Option, none, some}
use Prim.Native.Nat.{ℕ, ◌+◌, ◌≤◌}
use native.Mathlib.Omega.{arith}
use lib.Dec.{eqb}
use lib.Ieee.{Float}
use borrow.Author.Tests.{eqb-true}
use Rattle.arcstring_check.specs.Answer.{pick}
use Rattle.textform.specs.Text.{blank, row_start, in_turn, append}
use Rattle.textform_report.specs.Permille.{most_tracks}
use Rattle.textform_season.specs.declared.inner.column.Column.{Column}
use Rattle.textform_season.specs.declared.inner.column.Column.TheVariants as C
use Rattle.textform_season.specs.Season.{Season, begun, malformed, in_column, on_in_row, next_track, row_of, in_text, column_after}
use Rattle.textform_season.specs.Season.{step_with, fed_with, keep_track, reading}
use Rattle.textform_season.specs.Kept.{ColumnSound}
use Rattle.textform_season.specs.SeasonLaws.{AllAsNumbered}
use Rattle.textform_season.proofs.Columns.{SoundOption, column_sound}
use Rattle.textform_season.proofs.KeptSeasons.{as_many_tracks}

-- no number over 1,000, neither the last track's nor the one that is being read
record Few {D : Type 0} (s : Season D) : Type 0 where
  tracks : s.last ≤ most_tracks
  column : ColumnSound s.column

module _ {D : Type 0} (end : List Float → List Float → ℕ → D → D) (add : Float → List Float → List Float) where
  module _ (s : Season D) (few : Few s) where
    malformed_few : Few (malformed s)
    malformed_few = record { tracks = few.tracks; column = tt }

    on_in_row_few : (second : Bool) → Few (on_in_row second s)
    on_in_row_few second = record { tracks = few.tracks; column = tt }

    column_few : (c : Option Column) → SoundOption c → Few (in_column c s)
    column_few none sound = malformed_few
    column_few (some c) sound = record { tracks = few.tracks; column = sound }

    row_few : (c : Column) → ColumnSound c → Few (row_of end c s)
    row_few C.Empty sound = malformed_few
    row_few C.Limit sound = by_test (eqb s.last 0)
      where
        by_test : (t : Bool) → Few (pick t (on_in_row false s) (malformed s))
        by_test true = on_in_row_few false
        by_test false = malformed_few
    row_few (C.Number n) sound = by_tests_lem (eqb n s.last) (eqb n (s.last + 1)) refl
      where
        by_tests_lem : (t u : Bool) → eqb n (s.last + 1) ≡ u → Few (pick t (on_in_row true s) (pick u (on_in_row true (next_track end s)) (malformed s)))
        by_tests_lem true u e = on_in_row_few true
        by_tests_lem false true e = let is = eqb-true n (s.last + 1) e in
            let most = sound.1 in
            record { tracks = omega arith; column = tt }
        by_tests_lem false false e = malformed_few

    step_few : (byte : ℕ) → Few (step_with end add s byte)
    unfolding step_with
    step_few byte = by_tests_lem (eqb s.text.place row_start) (eqb byte blank)
      where
        by_tests_lem : (t u : Bool) → Few (pick t (pick u (row_of end s.column s) (in_column (column_after s.column byte) s)) (in_text add s byte))
        by_tests_lem true true = row_few s.column few.column
        by_tests_lem true false = column_few (column_after s.column byte) (column_sound s.column byte)
        by_tests_lem false u = record { tracks = few.tracks; column = few.column }

  fed_few : (s : Season D) (bytes : List ℕ) → Few s → Few (fed_with end add s bytes)
  unfolding in_turn
  fed_few s [] few = few
  fed_few s (byte ∷ bytes) few = fed_few (step_with end add s byte) bytes (step_few s few byte)

pub all_as_numbered : AllAsNumbered
unfolding reading
all_as_numbered bytes = record {
  as_many = as_many_tracks bytes;
  at_most = (fed_few keep_track append (begun []) bytes (record { tracks = omega arith; column = tt })).tracks;
}
