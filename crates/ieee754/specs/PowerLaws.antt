-- What is claimed of dividing by a power of two: it is multiplying by its inverse. For both formats and every float, NaN, the infinities and zeros of both
-- signs included; and a divisor of which it is not so. Definitions only. The proofs are in `proofs/Powers.antt`: `DivPower` is proved by `div_power`, and so
-- on.
use Rattle.std.specs.Prelude.{◌≡◌, false, ℤ, pos, neg_ℤ, Float}
use Rattle.std.specs.Float.{fin, Format, binary64}
use Rattle.std.specs.Float.Ieee.{mul, div}

-- 2 ^ e: 2 is `power (pos 1)`, and 0.5 its inverse, `power (negsuc 0)`
abbrev pub power : ℤ → Float
power e = fin false 1 e

-- x / 2 ^ e is x * 2 ^ -e, the same float: both round the same fraction once, so that a result below the normal range, which may lose a digit, loses the same
-- one. A format holds both powers for every e from -emax to emax; in the logic it holds of any e.
abbrev pub DivPower : Type 0
DivPower = (f : Format) (x : Float) (e : ℤ) → div f x (power e) ≡ mul f x (power (neg_ℤ e))

-- By 5, which is no power of two, it does not hold: 3 / 5 is another float than 3 * (1 / 5), which is rounded twice. So a vector of length 1.25, as
-- (0.75, 1, 0), is not normalised by one division and three products.
abbrev pub NotByInverse : Type 0
NotByInverse = div binary64 (fin false 3 (pos 0)) (fin false 5 (pos 0))
    ≡ mul binary64 (fin false 3 (pos 0)) (div binary64 (power (pos 0)) (fin false 5 (pos 0))) → ⊥
