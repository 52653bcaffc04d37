-- A comparison with zero. Assumes nothing.
use mathlib.Core.Path.{refl}
use lib.Ieee.{of_bits}
use Rattle.arcstring_sides.specs.Sides.{is_above}
use Rattle.arcstring_sides.proofs.inner.is_above.Goals as goal

pub returns : goal.returns
unfolding is_above of_bits
returns c = refl
