-- `SphericalPoint::from` meets its contract, whichever way its test goes. Assumes nothing.
use Rattle.sphericalpoint.proofs.Tolerances.{unit_bits, one_bits}
use Rattle.sphericalpoint.proofs.Cases.{unit_stays, other_normalized}
use Rattle.sphericalpoint.proofs.SphericalPoint.from.Goals as goal

pub returns-then-xyz_length : goal.returns-then-xyz_length
returns-then-xyz_length c = unit_stays _ (cc (unit_bits, one_bits))

pub returns-else-xyz_length : goal.returns-else-xyz_length
returns-else-xyz_length c = cc (other_normalized (record { x = c.args.x; y = c.args.y; z = c.args.z }) (cc (unit_bits, one_bits)))
