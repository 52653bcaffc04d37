-- `in_column` takes one byte more of the first column. Assumes nothing.
use mathlib.Core.Path.{ap, ◌∙◌}
use mathlib.Core.Option.{Option}
use Rattle.textform_season.specs.declared.inner.column.Column.{Column}
use Rattle.textform_season.specs.Season.{in_column}
use Rattle.textform_season.specs.Held.{held_season}
use Rattle.textform_season.proofs.inner.read.in_column.Goals as goal

pub column_after-requires : goal.column_after-requires
column_after-requires c = c.args.r.column_within

pub returns-in_default : goal.returns-in_default
returns-in_default c limit track out =
    c.malformed.ensures limit track out ∙ ap (λ (o : Option Column). in_column o (held_season c.args.r limit track out)) c.in_default.ensures.0

pub invariant_of-next : goal.invariant_of-next
invariant_of-next c = record { column_within = c.in-Some.ensures.1; few = c.args.r.few; tracks_within = c.args.r.tracks_within }

pub returns : goal.returns
returns c limit track out = ap (λ (o : Option Column). in_column o (held_season c.args.r limit track out)) c.in-Some.ensures.0
