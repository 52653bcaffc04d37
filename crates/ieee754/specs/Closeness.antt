-- How near two whole numbers are, without a difference that stops at zero. b is the rounded number and a the exact one: what they differ by is measured against
-- b, so that no case is left for what lies below the normal range. Definitions only.
use Rattle.std.specs.Prelude.{ℕ, ◌+◌, ◌*◌, ◌≤◌}

-- a is within b / u + e of b
pub record Close (u a b e : ℕ) : Type 0 where
  pub above : u * a ≤ u * b + b + u * e
  pub below : u * b ≤ u * a + b + u * e

-- a is within k * b / w of b
pub record Near (w k a b : ℕ) : Type 0 where
  pub over : w * a ≤ w * b + k * b
  pub under : w * b ≤ w * a + k * b
