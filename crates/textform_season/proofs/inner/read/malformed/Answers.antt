-- `malformed` goes to where malformed input ends up, by `Held`. Assumes nothing.
use Rattle.textform.specs.Text.{malformed}
use Rattle.textform_season.specs.declared.inner.column.Column.TheVariants as C
use Rattle.textform_season.proofs.inner.read.Held.{row_becomes}
use Rattle.textform_season.proofs.inner.read.malformed.Goals as goal

pub invariant_of-next : goal.invariant_of-next
invariant_of-next c = record { column_within = tt; few = c.args.r.few; tracks_within = c.args.r.tracks_within }

pub returns : goal.returns
returns c = row_becomes c.args.r malformed c.malformed-next.result C.Empty c.malformed-next.ensures
