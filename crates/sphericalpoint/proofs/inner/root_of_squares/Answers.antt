-- `inner::root_of_squares` meets its contract by what the root ensures. Assumes nothing.
use Rattle.sphericalpoint.specs.Vector.{xyz_mul, xyz_sum, xyz_length}
use Rattle.sphericalpoint.proofs.inner.root_of_squares.Goals as goal

pub returns : goal.returns
unfolding xyz_length xyz_mul xyz_sum
returns c = c.sqrt.ensures
