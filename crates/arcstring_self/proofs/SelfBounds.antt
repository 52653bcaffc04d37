-- Bounds on how much the pairs of a string with itself keep, over plain variables: among all that a need knows they take long to find. Assumes nothing.
use Prim.Native.Nat.{ℕ, ◌*◌, ◌/◌, ◌≤◌}
use native.Mathlib.Omega.{arith}
use mir.Syntax.{w64}
use mir.Val.{Fits}
use Rattle.arcstring_visit.specs.Visit.{most_pairs}

pub half-points_fit : (p : ℕ) → p ≤ most_pairs → Fits w64 (3 * (p / 2))
half-points_fit p h = omega arith

-- of a string with itself each pair is counted twice
pub half-held : (k p : ℕ) → k * 2 ≤ p → k ≤ p / 2
half-held k p h = omega arith
