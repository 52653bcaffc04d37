-- `on_in_row` goes on in a row, by `Held`. Assumes nothing.
use Rattle.textform.specs.Text.{in_row}
use Rattle.textform_season.specs.declared.inner.column.Column.TheVariants as C
use Rattle.textform_season.proofs.inner.read.Held.{row_becomes}
use Rattle.textform_season.proofs.inner.read.on_in_row.Goals as goal

pub invariant_of-next : goal.invariant_of-next
invariant_of-next c = record { column_within = tt; few = c.args.r.few; tracks_within = c.args.r.tracks_within }

pub returns : goal.returns
returns c = row_becomes c.args.r (in_row c.args.second) c.in_row-next.result C.Empty c.in_row-next.ensures
