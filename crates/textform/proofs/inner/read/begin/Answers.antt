-- `read::begin` stands within its bounds before the first byte. Assumes nothing.
use native.Mathlib.Omega.{arith}
use Rattle.textform.specs.Kept.{digits_before}
use Rattle.textform.proofs.inner.read.begin.Goals as goal

pub invariant_of-result : goal.invariant_of-result
unfolding digits_before
invariant_of-result c = record { sound = record { place_within = omega arith; word_fits = omega arith; a_fits = omega arith; b_fits = omega arith } }
