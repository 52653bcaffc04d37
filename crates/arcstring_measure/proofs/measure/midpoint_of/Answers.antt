-- The midpoint of a leg. Assumes nothing.
use Rattle.arcstring_measure.specs.Measure.{midpoint}
use Rattle.arcstring_measure.proofs.measure.midpoint_of.Goals as goal

pub returns : goal.returns
unfolding midpoint
returns c = cc
