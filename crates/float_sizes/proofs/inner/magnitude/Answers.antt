-- `inner::magnitude` meets its contract, by `Magnitudes`. Assumes nothing.
use Rattle.float_sizes.proofs.Magnitudes.{upper, lower}
use Rattle.float_sizes.proofs.inner.magnitude.Goals as goal

pub returns-then-x : goal.returns-then-x
returns-then-x c = upper _ c.if-x.true

pub returns-else-x : goal.returns-else-x
returns-else-x c = lower _ c.if-x.false
