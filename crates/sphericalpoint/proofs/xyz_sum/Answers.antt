-- `sphericalpoint::xyz_sum` is its definition, operation by operation. Assumes nothing.
use mathlib.Core.Path.{refl}
use Rattle.sphericalpoint.specs.Vector.{xyz_sum}
use Rattle.sphericalpoint.proofs.xyz_sum.Goals as goal

pub returns : goal.returns
unfolding xyz_sum
returns c = refl
