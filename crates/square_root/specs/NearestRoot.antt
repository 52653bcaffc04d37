-- What it is to be the `f64` nearest to √x, for a finite x from 0 up, with no algorithm named. Definitions only.
use Rattle.std.specs.Prelude.{ℕ, ◌+◌, ◌*◌, ◌^◌, ◌≤◌, ◌<◌, T, Float}
use Rattle.std.specs.Float.{binary64}
use Rattle.std.specs.Float.Ieee.{fits}
use Rattle.std.specs.Float.Ieee.Positive.{positive}
use Rattle.ieee754.specs.Units.{not_negative, units_in}
use Rattle.ieee754.specs.Closeness.{Near}

-- the size of a finite `f64` in units of 2 ^ -1074, the smallest of them: a whole number
abbrev pub in_units : Float → ℕ
in_units x = units_in binary64 x

-- r is an `f64` from 0 up. For every other such float y, √x lies on r's side of the point halfway between r and y, and never on that point, so that no tie
-- is left to decide. √x is √(inUnits x * 2 ^ 1074) units and the point halfway is (inUnits r + inUnits y) / 2 units: their doubles are compared by their
-- squares.
pub record NearestRoot (x r : Float) : Type 0 where
  pub held : T (fits binary64 r)
  pub from_zero : T (not_negative r)
  pub larger : (y : Float) → T (fits binary64 y) → T (not_negative y) → in_units r < in_units y
      → 4 * (in_units x * 2 ^ 1074) < (in_units r + in_units y) * (in_units r + in_units y)
  pub smaller : (y : Float) → T (fits binary64 y) → T (not_negative y) → in_units y < in_units r
      → (in_units r + in_units y) * (in_units r + in_units y) < 4 * (in_units x * 2 ^ 1074)

-- What is claimed of it: its square is within 2 + 1 / g of its own 2 ^ -53rd part of x, for every g up to 2 ^ 51. The proof is `root_close` of
-- `proofs/RootClose.antt`.
abbrev pub RootClose : Type 0
RootClose = (g : ℕ) → 4 * g ≤ 2 ^ 53 → (x r : Float) → T (fits binary64 x) → T (positive x) → NearestRoot x r
    → Near (g * 2 ^ 53) (2 * g + 1) (in_units x * 2 ^ 1074) (in_units r * in_units r)
