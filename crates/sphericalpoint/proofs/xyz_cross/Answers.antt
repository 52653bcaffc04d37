-- `sphericalpoint::xyz_cross` is its definition, operation by operation. Assumes nothing.
use mathlib.Core.Path.{refl}
use Rattle.sphericalpoint.specs.Vector.{xyz_cross}
use Rattle.sphericalpoint.proofs.xyz_cross.Goals as goal

pub returns : goal.returns
unfolding xyz_cross
returns c = refl
