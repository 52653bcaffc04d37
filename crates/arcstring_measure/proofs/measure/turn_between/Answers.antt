-- The source's sum at a vertex between two others. Assumes nothing.
use Rattle.arcstring_measure.specs.Measure.{turn}
use Rattle.arcstring_measure.proofs.measure.turn_between.Goals as goal

pub returns : goal.returns
unfolding turn
returns c = cc
