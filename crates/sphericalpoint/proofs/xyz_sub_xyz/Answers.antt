-- `sphericalpoint::xyz_sub_xyz` is its definition, operation by operation. Assumes nothing.
use mathlib.Core.Path.{refl}
use Rattle.sphericalpoint.specs.Vector.{xyz_sub}
use Rattle.sphericalpoint.proofs.xyz_sub_xyz.Goals as goal

pub returns : goal.returns
unfolding xyz_sub
returns c = refl
