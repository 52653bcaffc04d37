-- `row_of` takes the row that its first column names. Assumes nothing.
use mathlib.Core.Path.{◌≡◌, sym, ap, ◌∙◌, subst}
use mathlib.Core.List.{List}
use Prim.Native.Nat.{ℕ}
use lib.Ieee.{Float}
use Rattle.textform_season.specs.declared.inner.column.Column.{Column}
use Rattle.textform_season.specs.declared.inner.reading.Reading.{Reading}
use Rattle.textform_season.specs.Season.{row_of}
use Rattle.textform_season.specs.Kept.{ColumnSound, end_track}
use Rattle.textform_season.specs.Held.{held_season}
use Rattle.textform_season.proofs.inner.read.row_of.Goals as goal

-- what the column that was found makes, the column makes
found : (r : Reading) (limit track : List Float) (out : List ℕ) (it : Column) → r.column ≡ it
    → (let s = held_season r limit track out in row_of end_track it s ≡ row_of end_track r.column s)
found r limit track out it e = sym (ap (λ (x : Column). row_of end_track x (held_season r limit track out)) e)

pub track_row-requires : goal.track_row-requires
track_row-requires c = let within = subst ColumnSound c.in-Number.is c.args.r.column_within in within.1

pub returns-in-Empty : goal.returns-in-Empty
returns-in-Empty c = c.malformed.ensures _ _ _ ∙ found c.args.r c.args.limit.now c.args.track.now c.args.out.now _ c.in-Empty.is

pub returns-in-Limit : goal.returns-in-Limit
returns-in-Limit c = c.limit_row.ensures _ _ _ ∙ found c.args.r c.args.limit.now c.args.track.now c.args.out.now _ c.in-Limit.is

pub returns-in-Number : goal.returns-in-Number
returns-in-Number c = c.track_row.ensures ∙ found c.args.r c.args.limit.now c.args.track.now c.args.out.now _ c.in-Number.is
