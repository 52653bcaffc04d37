-- `sphericalpoint::xyz_div_f64` is its definition, operation by operation. Assumes nothing.
use mathlib.Core.Path.{refl}
use Rattle.sphericalpoint.specs.Vector.{xyz_div}
use Rattle.sphericalpoint.proofs.xyz_div_f64.Goals as goal

pub returns : goal.returns
unfolding xyz_div
returns c = refl
