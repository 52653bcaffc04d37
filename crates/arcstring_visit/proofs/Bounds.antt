-- Bounds on sums that the walks' needs ask for, over plain variables: among all that a need knows they take long to find. Assumes nothing.
use mathlib.Core.Path.{◌≡◌}
use mathlib.Core.List.{List}
use Prim.Native.Nat.{ℕ, ◌+◌, ◌-◌, ◌*◌, ◌<◌, ◌≤◌}
use native.Mathlib.Omega.{arith}
use lib.ListN.{length}
use Rattle.arcstring_pair.specs.declared.pair.Pair.{Pair}
use Rattle.arcstring_tally.specs.declared.inner.tally.Tally.{Tally}
use Rattle.arcstring_visit.specs.Visit.{most_pairs}
use Rattle.arcstring_tally.specs.Tally.{no_tally, tally_on, tally_sum}
use Rattle.arcstring_tally.proofs.Tallies.{sum_so_far}

-- a tally so far of all pairs of two strings has room for a row more
pub sum_with_row : (t : Tally) (ps qs : List Pair) (n : ℕ) → tally_on t ps ≡ tally_on no_tally qs → length qs ≤ most_pairs → n ≤ 1024
    → tally_sum t + 2 * n < 4294967296
sum_with_row t ps qs n e h k = omega (arith, sum_so_far t no_tally ps qs most_pairs e h)

-- those of a row that are found and the rest are no more than a string has
pub row_in_string : (m from to n : ℕ) → m ≤ to - from → to ≤ n → to - from - m + m ≤ n
row_in_string m from to n h k = omega arith
