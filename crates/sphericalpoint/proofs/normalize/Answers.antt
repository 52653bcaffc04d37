-- `sphericalpoint::normalize` meets its contract by what its calls ensure. Assumes nothing.
use Rattle.sphericalpoint.specs.Vector.{normalized}
use Rattle.sphericalpoint.proofs.normalize.Goals as goal

pub returns : goal.returns
unfolding normalized
returns c = cc
