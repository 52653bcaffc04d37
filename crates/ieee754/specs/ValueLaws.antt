-- What is claimed of floats and their values, for all floats, NaN and the infinities included, and for both formats. Definitions only. The proofs are in
-- `proofs/ByValue.antt`, `Comparisons.antt` and `Arithmetic.antt`: `AddValue` is proved by `add-value`, and so on.
use Rattle.std.specs.Prelude.{◌≡◌, Float}
use Rattle.std.specs.Float.{Format}
use Rattle.std.specs.Float.Ieee.{neg, add, sub, mul, lt, eq, le, ne}
use Rattle.ieee754.specs.Value.{value, zero_float, is_zero, Alike}
use Rattle.ieee754.specs.Size.{abs}

-- ---- two floats of the same value are the same float or two zeros, and the other way round

abbrev pub ValueAlike : Type 0
ValueAlike = (x y : Float) → value x ≡ value y → Alike x y

abbrev pub AlikeValue : Type 0
AlikeValue = (x y : Float) → Alike x y → value x ≡ value y

-- ---- the value of a result depends on the operands' values alone

abbrev pub AddValue : Type 0
AddValue = (f : Format) (x x' y y' : Float) → value x ≡ value x' → value y ≡ value y' → value (add f x y) ≡ value (add f x' y')

abbrev pub SubValue : Type 0
SubValue = (f : Format) (x x' y y' : Float) → value x ≡ value x' → value y ≡ value y' → value (sub f x y) ≡ value (sub f x' y')

abbrev pub MulValue : Type 0
MulValue = (f : Format) (x x' y y' : Float) → value x ≡ value x' → value y ≡ value y' → value (mul f x y) ≡ value (mul f x' y')

abbrev pub NegValue : Type 0
NegValue = (x x' : Float) → value x ≡ value x' → value (neg x) ≡ value (neg x')

abbrev pub AbsValue : Type 0
AbsValue = (x x' : Float) → value x ≡ value x' → value (abs x) ≡ value (abs x')

-- ---- and so does a comparison

abbrev pub LtValue : Type 0
LtValue = (x x' y y' : Float) → value x ≡ value x' → value y ≡ value y' → lt x y ≡ lt x' y'

abbrev pub EqValue : Type 0
EqValue = (x x' y y' : Float) → value x ≡ value x' → value y ≡ value y' → eq x y ≡ eq x' y'

abbrev pub LeValue : Type 0
LeValue = (x x' y y' : Float) → value x ≡ value x' → value y ≡ value y' → le x y ≡ le x' y'

abbrev pub NeValue : Type 0
NeValue = (x x' y y' : Float) → value x ≡ value x' → value y ≡ value y' → ne x y ≡ ne x' y'

-- ---- what equals 0.0 is a zero, of either sign

abbrev pub EqZero : Type 0
EqZero = (x : Float) → eq x zero_float ≡ is_zero x

-- ---- what holds of the floats themselves, the signs of zeros included

abbrev pub AddComm : Type 0
AddComm = (f : Format) (x y : Float) → add f x y ≡ add f y x

abbrev pub MulComm : Type 0
MulComm = (f : Format) (x y : Float) → mul f x y ≡ mul f y x

abbrev pub NegNeg : Type 0
NegNeg = (x : Float) → neg (neg x) ≡ x

abbrev pub MulNegLeft : Type 0
MulNegLeft = (f : Format) (x y : Float) → mul f (neg x) y ≡ neg (mul f x y)

abbrev pub MulNegRight : Type 0
MulNegRight = (f : Format) (x y : Float) → mul f x (neg y) ≡ neg (mul f x y)

-- ---- what holds by value alone: where two floats cancel, the two zeros differ in sign

abbrev pub NegAdd : Type 0
NegAdd = (f : Format) (x y : Float) → value (neg (add f x y)) ≡ value (add f (neg x) (neg y))

abbrev pub NegSub : Type 0
NegSub = (f : Format) (x y : Float) → value (neg (sub f x y)) ≡ value (sub f (neg x) (neg y))

abbrev pub SubSwap : Type 0
SubSwap = (f : Format) (x y : Float) → value (sub f x y) ≡ value (neg (sub f y x))
