-- What is claimed of the comparisons: they order the floats that are numbers, the infinities included, and with a NaN on either side none holds; and what
-- squares and products tell of the factors' order. For all floats. Definitions only. The proofs are in `proofs/Order.antt` and `Products.antt`: `LeTrans` is
-- proved by `le_trans`, and so on.
use Rattle.std.specs.Prelude.{◌≡◌, ◌⊎◌, Bool, true, false, not, T, Float}
use Rattle.std.specs.Float.{nan, inf, fin, Format}
use Rattle.std.specs.Float.Ieee.{mul, lt, le}
use Rattle.ieee754.specs.Size.{abs}
use Rattle.ieee754.specs.Value.{zero_float}

-- no NaN
abbrev pub number : Float → Bool
number nan = false
number (inf s) = true
number (fin s m e) = true

abbrev pub LeTrans : Type 0
LeTrans = (x y z : Float) → T (le x y) → T (le y z) → T (le x z)

abbrev pub LtOrLe : Type 0
LtOrLe = (x y : Float) → T (number x) → T (number y) → T (lt x y) ⊎ T (le y x)

abbrev pub LtNotLe : Type 0
LtNotLe = (x y : Float) → T (lt x y) → T (le y x) → ⊥

-- of two numbers one is at most the other exactly where that is not below it
abbrev pub LeNotLt : Type 0
LeNotLt = (x y : Float) → T (number x) → T (number y) → le y x ≡ not (lt x y)

abbrev pub LtLeTrans : Type 0
LtLeTrans = (x y z : Float) → T (lt x y) → T (le y z) → T (lt x z)

abbrev pub LtTrans : Type 0
LtTrans = (x y z : Float) → T (lt x y) → T (lt y z) → T (lt x z)

-- of two floats the one of no larger size has no larger square
abbrev pub SquareMono : Type 0
SquareMono = (f : Format) (x y : Float) → T (le (abs x) (abs y)) → T (le (mul f x x) (mul f y y))

-- a product is below zero only where of the factors one is above it and the other below
abbrev pub ProductBelow : Type 0
ProductBelow =
    (f : Format) (x y : Float) → T (lt (mul f x y) zero_float) → (T (lt zero_float x) × T (lt y zero_float)) ⊎ (T (lt x zero_float) × T (lt zero_float y))
