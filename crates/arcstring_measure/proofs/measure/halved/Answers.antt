-- A vector halved by a product. Assumes nothing.
use Rattle.arcstring_measure.proofs.Midpoints.{halved_divided}
use Rattle.arcstring_measure.proofs.measure.halved.Goals as goal

pub returns : goal.returns
returns c = halved_divided _
