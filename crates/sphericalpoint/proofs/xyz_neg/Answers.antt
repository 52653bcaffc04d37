-- `sphericalpoint::xyz_neg` is its definition, operation by operation. Assumes nothing.
use mathlib.Core.Path.{refl}
use Rattle.sphericalpoint.specs.Vector.{xyz_neg}
use Rattle.sphericalpoint.proofs.xyz_neg.Goals as goal

pub returns : goal.returns
unfolding xyz_neg
returns c = refl
