-- What is claimed of rounded operations: how far each lies from the exact one, and in which order. For both formats, and all over whole numbers of units.
-- Definitions only. The proofs are in `proofs/Units.antt`, `Spacing.antt`, `Rounded.antt` and `Operations.antt`: `ProductClose` is proved by
-- `product_close`, and so on. The law of the root is square_root's `RootClose`, since the root is defined there.
use Rattle.std.specs.Prelude.{◌≡◌, Bool, ℕ, ◌+◌, ◌*◌, ◌^◌, ◌≤◌, ◌<◌, T, ℤ, Float}
use Rattle.std.specs.Float.{fin, Format}
use Rattle.std.specs.Float.Ieee.{prec, low, up, down, round, add, mul, div, fits}
use Rattle.std.specs.Float.Ieee.Scale.{finite}
use Rattle.ieee754.specs.Bound.{AtMost}
use Rattle.ieee754.specs.Units.{not_negative, units_in}
use Rattle.ieee754.specs.Closeness.{Close}

-- ---- floats as whole numbers

-- m * 2 ^ e is exactly so many units
abbrev pub ExactUnits : Type 0
ExactUnits = (f : Format) (s : Bool) (m : ℕ) (e : ℤ) → T (fits f (fin s m e)) → m * up e * 2 ^ low f ≡ units_in f (fin s m e) * down e

-- Of two floats the smaller is below the larger by the 2 ^ -prec-th part of the larger at least.
abbrev pub GapBelow : Type 0
GapBelow = (f : Format) (x y : Float) → T (fits f x) → T (fits f y) → units_in f x < units_in f y
    → 2 ^ prec f * units_in f x + units_in f y ≤ 2 ^ prec f * units_in f y

-- ---- rounding a fraction a / c

-- The result is within its own 2 ^ -prec-th part and one unit of the fraction, below the normal range too.
abbrev pub RoundClose : Type 0
RoundClose = (f : Format) (s : Bool) (a c : ℕ) → 0 < c → T (finite (round f s a c)) → Close (2 ^ prec f) (a * 2 ^ low f) (units_in f (round f s a c) * c) c

-- A whole number of units is rounded without that one unit.
abbrev pub WholeClose : Type 0
WholeClose = (f : Format) (s : Bool) (n : ℕ) → T (finite (round f s n (2 ^ low f))) → Close (2 ^ prec f) n (units_in f (round f s n (2 ^ low f))) 0

-- Of two fractions the larger has no smaller result,
abbrev pub RoundMonotone : Type 0
RoundMonotone = (f : Format) (s t : Bool) (a b c d : ℕ) → 0 < b → 0 < d → a * d ≤ c * b → T (finite (round f s a b)) → T (finite (round f t c d))
    → units_in f (round f s a b) ≤ units_in f (round f t c d)

-- and so a float that is no larger than a fraction is no larger than the result.
abbrev pub RoundFrom : Type 0
RoundFrom = (f : Format) (x : Float) (s : Bool) (a c : ℕ) → T (fits f x) → 0 < c → units_in f x * c ≤ a * 2 ^ low f → T (finite (round f s a c))
    → units_in f x ≤ units_in f (round f s a c)

-- ---- the operations on floats that the format holds, where the result is finite

-- the product, of any signs
abbrev pub ProductClose : Type 0
ProductClose = (f : Format) (x y : Float) → T (fits f x) → T (fits f y) → T (finite (mul f x y))
    → Close (2 ^ prec f) (units_in f x * units_in f y) (units_in f (mul f x y) * 2 ^ low f) (2 ^ low f)

-- The sum of two that are not negative. It is a whole number of units, so that only its own part is lost; and it is no smaller than either of them.
abbrev pub SumClose : Type 0
SumClose = (f : Format) (x y : Float) → T (fits f x) → T (fits f y) → T (not_negative x) → T (not_negative y) → T (finite (add f x y))
    → Close (2 ^ prec f) (units_in f x + units_in f y) (units_in f (add f x y)) 0

abbrev pub SumFrom : Type 0
SumFrom = (f : Format) (x y : Float) → T (fits f x) → T (fits f y) → T (not_negative x) → T (not_negative y) → T (finite (add f x y))
    → (units_in f x ≤ units_in f (add f x y)) × (units_in f y ≤ units_in f (add f x y))

-- The quotient by a finite float, of any signs. Where the divisor is no smaller in size, it is from -1 to 1.
abbrev pub QuotientClose : Type 0
QuotientClose = (f : Format) (x y : Float) → T (fits f x) → T (fits f y) → T (finite y) → T (finite (div f x y))
    → Close (2 ^ prec f) (units_in f x * 2 ^ low f) (units_in f (div f x y) * units_in f y) (units_in f y)

abbrev pub QuotientAtMostOne : Type 0
QuotientAtMostOne = (f : Format) (x y : Float) → T (fits f x) → T (fits f y) → T (finite x) → 0 < units_in f y → units_in f x ≤ units_in f y → AtMost 0 (div f x y)
