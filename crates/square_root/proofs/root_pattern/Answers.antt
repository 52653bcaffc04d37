-- `root_pattern` meets its contract: `root_bits` does, and near 1 `NearOne`. Assumes nothing.
use native.Mathlib.Omega.{arith}
use Rattle.square_root.proofs.NearOne.{near_one}
use Rattle.square_root.proofs.root_pattern.Goals as goal

pub returns : goal.returns
returns c = near_one c.args.b (omega (arith, c.if-b-lt-NEAR_BELOW.false)) (omega (arith, c.if-b-gt-NEAR_ABOVE.false))
