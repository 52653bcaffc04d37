-- `sphericalpoint::xyz_mul_xyz` is its definition, operation by operation. Assumes nothing.
use mathlib.Core.Path.{refl}
use Rattle.sphericalpoint.specs.Vector.{xyz_mul}
use Rattle.sphericalpoint.proofs.xyz_mul_xyz.Goals as goal

pub returns : goal.returns
unfolding xyz_mul
returns c = refl
