-- What the pairs of two accepted strings keep is written, where they keep any. Assumes nothing.
use native.Mathlib.Omega.{arith}
use Rattle.arcstring_tally.proofs.Marks.{nothing_of, none_written}
use Rattle.arcstring_listing.proofs.listing.write_two.Goals as goal

pub returns-else-kept-gt0 : goal.returns-else-kept-gt0
returns-else-kept-gt0 c =
    let w = none_written _ 0 _ _ (nothing_of _ (omega arith)) in
    record { points_after = w.0; marks_after = w.1 }
