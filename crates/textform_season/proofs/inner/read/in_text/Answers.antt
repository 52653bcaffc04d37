-- `in_text` takes a byte as the text form of two strings does, by `Held`. Assumes nothing.
use Rattle.textform_season.proofs.inner.read.Held.{text_held}
use Rattle.textform_season.proofs.inner.read.in_text.Goals as goal

pub invariant_of-next : goal.invariant_of-next
invariant_of-next c = record { column_within = c.args.r.column_within; few = c.args.r.few; tracks_within = c.args.r.tracks_within }

pub returns : goal.returns
returns c = text_held c.args.r c.step-next.result c.args.byte c.args.limit.now c.args.track.now _ _ c.step-next.ensures
