-- The sum of squared differences against the equality tolerance. Assumes nothing.
use Rattle.sphericalpoint.proofs.Tolerances.{equality_bits}
use Rattle.arcstring_near.specs.Near.{is_near, squared_distance}
use Rattle.arcstring_near.proofs.inner.is_near.Goals as goal

pub returns : goal.returns
unfolding is_near squared_distance
returns c = cc equality_bits
