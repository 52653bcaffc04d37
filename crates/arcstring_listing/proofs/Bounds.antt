-- Bounds on how much the pairs of two strings keep, over plain variables: among all that a need knows they take long to find. Assumes nothing.
use Prim.Native.Nat.{ℕ, ◌*◌, ◌≤◌}
use native.Mathlib.Omega.{arith}
use mir.Syntax.{w64}
use mir.Val.{Fits}
use Rattle.arcstring_visit.specs.Visit.{most_pairs}

pub pairs_fit : (p : ℕ) → p ≤ most_pairs → Fits w64 p
pairs_fit p h = omega arith

pub points_fit : (p : ℕ) → p ≤ most_pairs → Fits w64 (3 * p)
points_fit p h = omega arith

pub points-held : (k p room : ℕ) → k ≤ p → 3 * p ≤ room → 3 * k ≤ room
points-held k p room h r = omega arith
