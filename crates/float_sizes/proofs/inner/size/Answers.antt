-- `inner::size` meets its contract, by `Sizes`. Assumes nothing.
use Rattle.std.proofs.Common.{◌∙◌}
use Rattle.float_sizes.proofs.Sizes.{sign_cleared}
use Rattle.float_sizes.proofs.inner.size.Goals as goal

pub returns : goal.returns
returns c = c.abs.ensures.value ∙ sign_cleared c.args.x
