-- `read::onward` goes on to the next place, which `Places` has within bounds. Assumes nothing.
use Rattle.textform.proofs.inner.read.Reading.{onward_sound, onward_held}
use Rattle.textform.proofs.inner.read.onward.Goals as goal

pub invariant_of-next : goal.invariant_of-next
invariant_of-next c = record { sound = onward_sound c.args.r _ _ c.requires.0 c.requires.1 c.place_after.ensures }

pub returns : goal.returns
returns c = onward_held c.args.r _ c.args.second _ c.place_after.ensures
