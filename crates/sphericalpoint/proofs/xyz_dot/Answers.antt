-- `sphericalpoint::xyz_dot` meets its contract by what its calls ensure. Assumes nothing.
use Rattle.sphericalpoint.specs.Vector.{xyz_dot}
use Rattle.sphericalpoint.proofs.xyz_dot.Goals as goal

pub returns : goal.returns
unfolding xyz_dot
returns c = cc
