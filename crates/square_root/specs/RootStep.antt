-- The words of the contracts inside `src/lib.rt`: the whole root of a number, what the step to a longer root asks, and the significand of a pattern.
-- What `sqrt` itself promises is said without them. Definitions only.
use Rattle.std.specs.Prelude.{ℕ, ◌+◌, ◌*◌, ◌/◌, ◌%◌, ◌^◌, ◌≤◌, ◌<◌, min}

-- r is the whole root of n: its square is at most n, and the next number's is above n
pub record WholeRoot (n r : ℕ) : Type 0 where
  pub square_le : r * r ≤ n
  pub next_above : n < (r + 1) * (r + 1)

-- What `longer` asks: s is the whole root of m, c1 and c2 are digits in base h, and s is at least h / 2.
-- The last two bounds keep its products within 64 bits.
pub record Step (m s h c1 c2 : ℕ) : Type 0 where
  pub root : WholeRoot m s
  pub base : h ≤ 2 * s
  pub digit1 : c1 < h
  pub digit2 : c2 < h
  pub root_small : s < 2 ^ 27
  pub base_small : h ≤ 2 ^ 27

-- the significand of a pattern with the sign clear: the 52 low digits, under a leading one unless the exponent's field is 0
abbrev pub significand_of : ℕ → ℕ
significand_of b = b % 2 ^ 52 + 2 ^ 52 * min (b / 2 ^ 52) 1
