-- `sphericalpoint::normalize_unless_short` meets its contract, whichever way its test goes. Assumes nothing.
use Rattle.sphericalpoint.proofs.Tolerances.{equality_bits}
use Rattle.sphericalpoint.proofs.Cases.{short_stays, long_divided}
use Rattle.sphericalpoint.proofs.normalize_unless_short.Goals as goal

pub returns-then-length : goal.returns-then-length
returns-then-length c = short_stays c.args.xyz (cc equality_bits)

pub returns-else-length : goal.returns-else-length
returns-else-length c = cc (long_divided c.args.xyz (cc equality_bits))
