-- `sphericalpoint::xyz_abs` meets its contract by what its calls ensure. Assumes nothing.
use Rattle.sphericalpoint.specs.Vector.{xyz_abs}
use Rattle.sphericalpoint.proofs.xyz_abs.Goals as goal

pub returns : goal.returns
unfolding xyz_abs
returns c = cc
