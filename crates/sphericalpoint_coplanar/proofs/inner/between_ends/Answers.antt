-- `inner::between_ends` meets its contract by what its calls ensure. Assumes nothing.
use Rattle.sphericalpoint_coplanar.specs.Coplanar.{between_ends}
use Rattle.sphericalpoint.proofs.Tolerances.{coplanar_bits, one_bits}
use Rattle.sphericalpoint_coplanar.proofs.inner.between_ends.Goals as goal

pub returns : goal.returns
unfolding between_ends
returns c = cc (coplanar_bits, one_bits)
