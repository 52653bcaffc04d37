-- `sphericalpoint::xyz_add_xyz` is its definition, operation by operation. Assumes nothing.
use mathlib.Core.Path.{refl}
use Rattle.sphericalpoint.specs.Vector.{xyz_add}
use Rattle.sphericalpoint.proofs.xyz_add_xyz.Goals as goal

pub returns : goal.returns
unfolding xyz_add
returns c = refl
