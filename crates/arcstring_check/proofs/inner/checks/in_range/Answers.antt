-- `check::in_range` is its definition. Assumes nothing.
use mathlib.Core.Path.{refl}
use lib.Ieee.{of_bits, neg}
use Rattle.arcstring_check.specs.Check.{in_range}
use Rattle.arcstring_check.proofs.inner.checks.in_range.Goals as goal

pub returns : goal.returns
unfolding in_range of_bits neg
returns c = refl
