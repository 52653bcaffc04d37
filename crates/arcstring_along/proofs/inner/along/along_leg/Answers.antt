-- The source's test of a leg, with the point in the second place. Assumes nothing.
use Rattle.arcstring_along.specs.OnString.{along_leg}
use Rattle.arcstring_along.proofs.inner.along.along_leg.Goals as goal

pub returns : goal.returns
unfolding along_leg
returns c = cc
