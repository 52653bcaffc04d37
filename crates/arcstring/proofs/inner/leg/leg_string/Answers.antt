-- A leg as six floats. Assumes nothing.
use Rattle.arcstring.specs.Leg.{leg_floats}
use borrow.Author.Rules.{rules}
use Rattle.arcstring.proofs.inner.leg.leg_string.Goals as goal

pub returns : goal.returns
unfolding leg_floats
returns c = search rules
