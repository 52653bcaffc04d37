-- The value of a sum, a difference, a product, a negation and a size depends on the operands' values alone, so +0 and -0 may stand for each other; and by value
-- a negation
-- goes through a sum and a difference. Equal values are what `Alike` says. For every format and all floats, NaN and the infinities included. Assumes nothing.
use mathlib.Core.Path.{◌≡◌, refl, sym, ap, ap₂, ◌∙◌}
use mathlib.Core.Logic.{inl, inr}
use Prim.Native.Nat.{ℕ, zero, suc, ◌+◌, ◌-◌, ◌*◌}
use native.Mathlib.Nat.{mul_assoc, zero-mul, zero-add, sub-zero, mul-pos}
use native.Mathlib.Omega.{arith}
use mathlib.Core.Bool.{Bool, true, false, not, ◌&&◌, cond}
use lib.Dec.{T, ltb, nltb→le}
use lib.IntN.{ℤ, pos}
use lib.Ieee.{Float, nan, inf, fin, Format, up, down, unlike, round, neg, sum, add, sub, mul}
use lib.Ieee.Fits.{down_pos}
use lib.Ieee.Scale.{round_same}
use Rattle.ieee754.proofs.Tests.{never}
use Rattle.ieee754.specs.Value.{Value, vnan, vinf, vzero, vnum, value, float, is_zero}
use Rattle.ieee754.specs.Size.{abs}
use Rattle.ieee754.specs.ValueLaws.{ValueAlike, AlikeValue, AddValue, SubValue, MulValue, NegValue, AbsValue, NegAdd, NegSub, SubSwap}
use Rattle.ieee754.proofs.Rounding.{round_neg, round_zero}
use Rattle.ieee754.proofs.Arithmetic.{neg_neg, add_comm, mul_comm, same_if_neither}

-- ---- values, and floats that are alike
pub value-float : (v : Value) → value (float v) ≡ v
value-float vnan = refl
value-float (vinf s) = refl
value-float vzero = refl
value-float (vnum s n e) = refl

pub zero-value : (x : Float) → T (is_zero x) → value x ≡ vzero
zero-value nan t = absurd t
zero-value (inf s) t = absurd t
zero-value (fin s zero e) t = refl
zero-value (fin s (suc n) e) t = absurd t

pub alike_value : AlikeValue
alike_value x y (inl e) = ap value e
alike_value x y (inr z) = zero-value x z.0 ∙ sym (zero-value y z.1)

pub value_alike : ValueAlike
value_alike nan nan p = inl refl
value_alike nan (inf t) p = never cc
value_alike nan (fin t zero d) p = never cc
value_alike nan (fin t (suc n) d) p = never cc
value_alike (inf s) nan p = never cc
value_alike (inf s) (inf t) p = inl (cc)
value_alike (inf s) (fin t zero d) p = never cc
value_alike (inf s) (fin t (suc n) d) p = never cc
value_alike (fin s zero e) nan p = never cc
value_alike (fin s zero e) (inf t) p = never cc
value_alike (fin s zero e) (fin t zero d) p = inr (tt, tt)
value_alike (fin s zero e) (fin t (suc n) d) p = never cc
value_alike (fin s (suc m) e) nan p = never cc
value_alike (fin s (suc m) e) (inf t) p = never cc
value_alike (fin s (suc m) e) (fin t zero d) p = never cc
value_alike (fin s (suc m) e) (fin t (suc n) d) p = inl (cc)

-- ---- a sum with a zero: whatever the zero's sign, and however it is written
zero_either : (f : Format) (s t : Bool) (a c : ℕ) → a ≡ 0 → value (round f s a c) ≡ value (round f t a c)
zero_either f s t a c e = rw e (round_zero f s c ∙ sym (round_zero f t c))

sum-zero_at : (f : Format) (s t : Bool) (b c : ℕ) (x y : Bool) → (T (not x) → b ≡ 0)
    → value (cond x (round f t (b - 0) c) (round f (s && y) (0 - b) c)) ≡ value (round f t b c)
sum-zero_at f s t b c true y h = ap (λ (n : ℕ). value (round f t n c)) (sub-zero b)
sum-zero_at f s t b c false y h =
    let p : b ≡ 0 = h tt in
    let q : 0 - b ≡ b = omega arith in
    ap (λ (n : ℕ). value (round f (s && y) n c)) q ∙ zero_either f (s && y) t b c p

not_above_zero : (b : ℕ) → T (not (ltb 0 b)) → b ≡ 0
not_above_zero b t = omega (arith, nltb→le 0 b t)

sum-zero : (f : Format) (s t : Bool) (b c : ℕ) → value (sum f s 0 t b c) ≡ value (round f t b c)
unfolding sum
sum-zero f true true b c = ap (λ (n : ℕ). value (round f true n c)) (zero-add b)
sum-zero f false false b c = ap (λ (n : ℕ). value (round f false n c)) (zero-add b)
sum-zero f true false b c = sum-zero_at f true false b c (ltb 0 b) (ltb b 0) (not_above_zero b)
sum-zero f false true b c = sum-zero_at f false true b c (ltb 0 b) (ltb b 0) (not_above_zero b)

pub zero_times : (x y : ℕ) → 0 * x * y ≡ 0
zero_times x y = simp zero-mul

-- 0 + y is y, rounded
add-zero_is : (f : Format) (s : Bool) (e : ℤ) (t : Bool) (n : ℕ) (d : ℤ) → value (add f (fin s 0 e) (fin t n d)) ≡ value (round f t (n * up d) (down d))
unfolding add
add-zero_is f s e t n d =
    ap (λ (a : ℕ). value (sum f s a t (n * up d * down e) (down e * down d))) (zero_times (up e) (down d))
    ∙ sum-zero f s t (n * up d * down e) (down e * down d)
    ∙ ap value (round_same f t (n * up d * down e) (down e * down d) (n * up d) (down d) (mul-pos (down_pos e) (down_pos d)) (down_pos d)
    (mul_assoc (n * up d) (down e) (down d)))

add-float-left : (f : Format) (x y : Float) → value (add f x y) ≡ value (add f (float (value x)) y)
add-float-left f nan y = refl
add-float-left f (inf s) y = refl
add-float-left f (fin s zero e) nan = unfold add in refl
add-float-left f (fin s zero e) (inf t) = unfold add in refl
add-float-left f (fin s zero e) (fin t n d) = add-zero_is f s e t n d ∙ sym (add-zero_is f false (pos 0) t n d)
add-float-left f (fin s (suc m) e) y = refl

-- ---- a product with a zero
mul-zero_is : (f : Format) (s : Bool) (e : ℤ) (t : Bool) (n : ℕ) (d : ℤ) → value (mul f (fin s 0 e) (fin t n d)) ≡ vzero
unfolding mul
mul-zero_is f s e t n d =
    ap (λ (a : ℕ). value (round f (unlike s t) a (down e * down d))) (zero_times (up e) (n * up d)) ∙ round_zero f (unlike s t) (down e * down d)

mul-float-left : (f : Format) (x y : Float) → value (mul f x y) ≡ value (mul f (float (value x)) y)
mul-float-left f nan y = refl
mul-float-left f (inf s) y = refl
mul-float-left f (fin s zero e) nan = unfold mul in refl
mul-float-left f (fin s zero e) (inf t) = unfold mul in refl
mul-float-left f (fin s zero e) (fin t n d) = mul-zero_is f s e t n d ∙ sym (mul-zero_is f false (pos 0) t n d)
mul-float-left f (fin s (suc m) e) y = refl

-- ---- each operation on floats that have the operands' values: what it takes for `value` to be a homomorphism
pub add-float : (f : Format) (x y : Float) → value (add f x y) ≡ value (add f (float (value x)) (float (value y)))
add-float f x y =
    add-float-left f x y
    ∙ ap value (add_comm f (float (value x)) y)
    ∙ add-float-left f y (float (value x))
    ∙ ap value (add_comm f (float (value y)) (float (value x)))

pub mul-float : (f : Format) (x y : Float) → value (mul f x y) ≡ value (mul f (float (value x)) (float (value y)))
mul-float f x y =
    mul-float-left f x y
    ∙ ap value (mul_comm f (float (value x)) y)
    ∙ mul-float-left f y (float (value x))
    ∙ ap value (mul_comm f (float (value y)) (float (value x)))

pub neg_float : (x : Float) → value (neg x) ≡ value (neg (float (value x)))
unfolding neg
neg_float nan = refl
neg_float (inf s) = refl
neg_float (fin s zero e) = refl
neg_float (fin s (suc m) e) = refl

pub abs-float : (x : Float) → value (abs x) ≡ value (abs (float (value x)))
unfolding abs
abs-float nan = refl
abs-float (inf s) = refl
abs-float (fin s zero e) = refl
abs-float (fin s (suc m) e) = refl

-- ---- operands of the same values give results of the same value
pub add-value : AddValue
add-value f x x' y y' p q = add-float f x y ∙ ap₂ (λ (v w : Value). value (add f (float v) (float w))) p q ∙ sym (add-float f x' y')

pub mul-value : MulValue
mul-value f x x' y y' p q = mul-float f x y ∙ ap₂ (λ (v w : Value). value (mul f (float v) (float w))) p q ∙ sym (mul-float f x' y')

pub neg_value : NegValue
neg_value x x' p = neg_float x ∙ ap (λ (v : Value). value (neg (float v))) p ∙ sym (neg_float x')

pub abs-value : AbsValue
abs-value x x' p = abs-float x ∙ ap (λ (v : Value). value (abs (float v))) p ∙ sym (abs-float x')

pub sub-value : SubValue
unfolding sub
sub-value f x x' y y' p q = add-value f x x' (neg y) (neg y') p (neg_value y y' q)

-- ---- negation, by value. As data the two sides differ where x and y cancel: x + y is +0 there, and so is -x + -y
neg_mixed : (f : Format) (s : Bool) (a b c : ℕ) (x y : Bool) → (T (not x) → T (not y) → a ≡ b)
    → value (neg (cond x (round f (not s) (b - a) c) (round f (s && y) (a - b) c)))
    ≡ value (cond x (round f s (b - a) c) (round f (not s && y) (a - b) c))
neg_mixed f true a b c true y e = ap value (round_neg f false (b - a) c)
neg_mixed f false a b c true y e = ap value (round_neg f true (b - a) c)
neg_mixed f true a b c false true e = ap value (round_neg f true (a - b) c)
neg_mixed f false a b c false true e = ap value (round_neg f false (a - b) c)
neg_mixed f true a b c false false e =
    let p : a ≡ b = e tt tt in
    ap value (round_neg f false (a - b) c) ∙ zero_either f true false (a - b) c (omega arith)
neg_mixed f false a b c false false e =
    let p : a ≡ b = e tt tt in
    ap value (round_neg f false (a - b) c) ∙ zero_either f true false (a - b) c (omega arith)

neg_sum : (f : Format) (s : Bool) (a : ℕ) (t : Bool) (b c : ℕ) → value (neg (sum f s a t b c)) ≡ value (sum f (not s) a (not t) b c)
unfolding sum
neg_sum f true a true b c = ap value (round_neg f true (a + b) c)
neg_sum f false a false b c = ap value (round_neg f false (a + b) c)
neg_sum f true a false b c = neg_mixed f true a b c (ltb a b) (ltb b a) (same_if_neither a b)
neg_sum f false a true b c = neg_mixed f false a b c (ltb a b) (ltb b a) (same_if_neither a b)

pub neg_add : NegAdd
unfolding add neg
neg_add f nan y = refl
neg_add f (inf s) nan = refl
neg_add f (inf true) (inf true) = refl
neg_add f (inf true) (inf false) = refl
neg_add f (inf false) (inf true) = refl
neg_add f (inf false) (inf false) = refl
neg_add f (inf s) (fin t n d) = refl
neg_add f (fin s m e) nan = refl
neg_add f (fin s m e) (inf t) = refl
neg_add f (fin s m e) (fin t n d) = neg_sum f s (m * up e * down d) t (n * up d * down e) (down e * down d)

pub neg_sub : NegSub
unfolding sub
neg_sub f x y = neg_add f x (neg y)

-- x - y is -(y - x)
pub sub-swap : SubSwap
unfolding sub
sub-swap f x y =
    ap value (add_comm f x (neg y))
    ∙ ap (λ (z : Float). value (add f (neg y) z)) (sym (neg_neg x))
    ∙ sym (neg_add f y (neg x))
