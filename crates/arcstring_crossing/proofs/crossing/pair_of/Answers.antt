-- The class of a pair of legs that are arrays, by the test that the walk makes. Assumes nothing.
use lib.Ieee.{of_bits}
use Rattle.arcstring_crossing.proofs.KeptPlanes.{pair_with_lem}
use Rattle.arcstring.proofs.Legs.{leg_as}
use Rattle.arcstring_crossing.proofs.crossing.pair_of.Goals as goal

pub returns : goal.returns
unfolding of_bits
returns c = pair_with_lem _ _ _ _ _ _ c.pair.ensures c.of.ensures (leg_as _ _ c.leg_string-b.ensures)
