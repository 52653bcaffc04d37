-- `inner::between_in_plane` meets its contract by what its calls ensure. Assumes nothing.
use Rattle.sphericalpoint_coplanar.specs.Coplanar.{between_in_plane}
use Rattle.sphericalpoint.proofs.Tolerances.{coplanar_bits, one_bits}
use Rattle.sphericalpoint_coplanar.proofs.inner.between_in_plane.Goals as goal

pub returns : goal.returns
unfolding between_in_plane
returns c = cc (coplanar_bits, one_bits)
