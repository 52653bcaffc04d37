-- What the pairs of an accepted string with itself keep is written and normalised, where they keep any. Assumes nothing.
use native.Mathlib.Omega.{arith}
use Rattle.arcstring_self.proofs.NormalizedListings.{none_normalized}
use Rattle.arcstring_tally.proofs.Marks.{nothing_of}
use Rattle.arcstring_self.proofs.with_self.write_self.Goals as goal

pub returns-else-kept-gt0 : goal.returns-else-kept-gt0
returns-else-kept-gt0 c =
    let w = none_normalized _ _ _ (nothing_of _ (omega arith)) in
    record { points_after = w.0; marks_after = w.1 }
