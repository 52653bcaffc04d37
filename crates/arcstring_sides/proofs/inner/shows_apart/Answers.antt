-- The side values show that a pair is apart: none grazes, and the signs differ. Assumes nothing.
use lib.Ieee.{of_bits}
use Rattle.arcstring_sides.proofs.Aparts.{both_tested}
use Rattle.arcstring_sides.proofs.inner.shows_apart.Goals as goal

pub returns : goal.returns
unfolding of_bits
returns c = both_tested _ _ _ _ c.least_square.ensures c.least_product.ensures
