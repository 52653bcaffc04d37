-- A comparison with zero. Assumes nothing.
use mathlib.Core.Path.{refl}
use lib.Ieee.{of_bits}
use Rattle.arcstring_sides.specs.Sides.{is_below}
use Rattle.arcstring_sides.proofs.inner.is_below.Goals as goal

pub returns : goal.returns
unfolding is_below of_bits
returns c = refl
