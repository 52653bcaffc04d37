-- What is claimed of the sizes of results, for both formats: from bounds on the operands come bounds on a product, a sum and a difference, and so each is
-- finite, as long as the format reaches that far. Definitions only. The proofs are in `proofs/Bounds.antt`: `MulAtMost` is proved by `mul_at_most`, and so
-- on.
use Rattle.std.specs.Prelude.{ℕ, suc, ◌+◌, ◌≤◌, max, pos, T, true, false, Float}
use Rattle.std.specs.Float.{fin, Format}
use Rattle.std.specs.Float.Ieee.{emax, add, sub, mul, le}
use Rattle.ieee754.specs.Bound.{AtMost}

-- ---- a product

abbrev pub MulAtMost : Type 0
MulAtMost = (f : Format) (a b : ℕ) (x y : Float) → a + b ≤ emax f → AtMost a x → AtMost b y → AtMost (a + b) (mul f x y)

-- ---- a sum and a difference, under the larger of the two bounds

abbrev pub AddAtMostMax : Type 0
AddAtMostMax = (f : Format) (a b : ℕ) (x y : Float) → suc (max a b) ≤ emax f → AtMost a x → AtMost b y → AtMost (suc (max a b)) (add f x y)

abbrev pub SubAtMostMax : Type 0
SubAtMostMax = (f : Format) (a b : ℕ) (x y : Float) → suc (max a b) ≤ emax f → AtMost a x → AtMost b y → AtMost (suc (max a b)) (sub f x y)

-- ---- and under a common one

abbrev pub AddAtMost : Type 0
AddAtMost = (f : Format) (a b k : ℕ) (x y : Float) → a ≤ k → b ≤ k → suc k ≤ emax f → AtMost a x → AtMost b y → AtMost (suc k) (add f x y)

abbrev pub SubAtMost : Type 0
SubAtMost = (f : Format) (a b k : ℕ) (x y : Float) → a ≤ k → b ≤ k → suc k ≤ emax f → AtMost a x → AtMost b y → AtMost (suc k) (sub f x y)

-- ---- a float from -1 to 1 is one of at most 2 ^ 0 in size, and the other way round

abbrev pub BetweenAtMost : Type 0
BetweenAtMost = (x : Float) → T (le (fin true 1 (pos 0)) x) → T (le x (fin false 1 (pos 0))) → AtMost 0 x

abbrev pub AtMostBetween : Type 0
AtMostBetween = (x : Float) → AtMost 0 x → T (le (fin true 1 (pos 0)) x) × T (le x (fin false 1 (pos 0)))
