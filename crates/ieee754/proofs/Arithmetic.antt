-- The laws of arithmetic that hold of floats as data, the signs of zeros included: of negation, of the size, and of the order of a sum's and a product's
-- operands.
-- For every format and all floats, NaN and the infinities included. Assumes nothing.
use mathlib.Core.Path.{◌≡◌, refl, sym, ap, ◌∙◌}
use Prim.Native.Nat.{ℕ, ◌-◌, ◌*◌}
use native.Mathlib.Nat.{add_comm as +_comm, mul_comm as *-comm}
use native.Mathlib.Omega.{arith}
use mathlib.Core.Bool.{Bool, true, false, not, cond, not-not}
use lib.Dec.{T, ltb, eqb, ltb→lt, nltb→le}
use lib.Ieee.{Float, nan, inf, fin, Format, up, down, unlike, round, neg, sum, add, mul}
use Rattle.ieee754.specs.Size.{abs}
use Rattle.ieee754.specs.ValueLaws.{AddComm, MulComm, NegNeg, MulNegLeft, MulNegRight}
use Rattle.ieee754.proofs.Rounding.{round_neg}

-- ---- signs
unlike_comm : (s t : Bool) → unlike s t ≡ unlike t s
unlike_comm true true = refl
unlike_comm true false = refl
unlike_comm false true = refl
unlike_comm false false = refl

unlike_not : (s t : Bool) → unlike (not s) t ≡ not (unlike s t)
unlike_not true true = refl
unlike_not true false = refl
unlike_not false true = refl
unlike_not false false = refl

pub neg_neg : NegNeg
unfolding neg
neg_neg nan = refl
neg_neg (inf s) = ap inf (not-not s)
neg_neg (fin s m e) = ap (λ (b : Bool). fin b m e) (not-not s)

pub abs_neg : (x : Float) → abs (neg x) ≡ abs x
unfolding abs neg
abs_neg nan = refl
abs_neg (inf s) = refl
abs_neg (fin s m e) = refl

-- ---- the sum
not_both : (a b : ℕ) → T (ltb a b) → T (ltb b a) → ⊥
not_both a b x y = omega (arith, ltb→lt a b x, ltb→lt b a y)

pub same_if_neither : (a b : ℕ) → T (not (ltb a b)) → T (not (ltb b a)) → a ≡ b
same_if_neither a b x y = omega (arith, nltb→le a b x, nltb→le b a y)

cross_signs : (f : Format) (a b c : ℕ) (x y : Bool) → (T x → T y → ⊥) → (T (not x) → T (not y) → a ≡ b)
    → cond x (round f false (b - a) c) (round f y (a - b) c) ≡ cond y (round f true (a - b) c) (round f false (b - a) c)
cross_signs f a b c true true h e = absurd (h tt tt)
cross_signs f a b c true false h e = refl
cross_signs f a b c false true h e = refl
cross_signs f a b c false false h e =
    let p : a ≡ b = e tt tt in
    let q : a - b ≡ b - a = omega arith in
    ap (λ (n : ℕ). round f false n c) q

sum_comm : (f : Format) (s : Bool) (a : ℕ) (t : Bool) (b c : ℕ) → sum f s a t b c ≡ sum f t b s a c
unfolding sum
sum_comm f true a true b c = ap (λ (n : ℕ). round f true n c) (+_comm a b)
sum_comm f false a false b c = ap (λ (n : ℕ). round f false n c) (+_comm a b)
sum_comm f true a false b c = cross_signs f a b c (ltb a b) (ltb b a) (not_both a b) (same_if_neither a b)
sum_comm f false a true b c = sym (cross_signs f b a c (ltb b a) (ltb a b) (not_both b a) (same_if_neither b a))

pub add_comm : AddComm
unfolding add
add_comm f nan nan = refl
add_comm f nan (inf t) = refl
add_comm f nan (fin t n d) = refl
add_comm f (inf s) nan = refl
add_comm f (inf true) (inf true) = refl
add_comm f (inf true) (inf false) = refl
add_comm f (inf false) (inf true) = refl
add_comm f (inf false) (inf false) = refl
add_comm f (inf s) (fin t n d) = refl
add_comm f (fin s m e) nan = refl
add_comm f (fin s m e) (inf t) = refl
add_comm f (fin s m e) (fin t n d) =
    sum_comm f s (m * up e * down d) t (n * up d * down e) (down e * down d)
    ∙ ap (λ (c : ℕ). sum f t (n * up d * down e) s (m * up e * down d) c) (*-comm (down e) (down d))

-- ---- the product
pub mul_comm : MulComm
unfolding mul
mul_comm f nan nan = refl
mul_comm f nan (inf t) = refl
mul_comm f nan (fin t n d) = refl
mul_comm f (inf s) nan = refl
mul_comm f (inf s) (inf t) = ap inf (unlike_comm s t)
mul_comm f (inf s) (fin t n d) = ap (λ (b : Bool). cond (eqb n 0) nan (inf b)) (unlike_comm s t)
mul_comm f (fin s m e) nan = refl
mul_comm f (fin s m e) (inf t) = ap (λ (b : Bool). cond (eqb m 0) nan (inf b)) (unlike_comm s t)
mul_comm f (fin s m e) (fin t n d) =
    ap (λ (b : Bool). round f b (m * up e * (n * up d)) (down e * down d)) (unlike_comm s t)
    ∙ ap (λ (a : ℕ). round f (unlike t s) a (down e * down d)) (*-comm (m * up e) (n * up d))
    ∙ ap (λ (c : ℕ). round f (unlike t s) (n * up d * (m * up e)) c) (*-comm (down e) (down d))

neg_cond_inf : (b s : Bool) → cond b nan (inf (not s)) ≡ neg (cond b nan (inf s))
unfolding neg
neg_cond_inf true s = refl
neg_cond_inf false s = refl

pub mul_neg_left : MulNegLeft
unfolding mul neg
mul_neg_left f nan y = refl
mul_neg_left f (inf s) nan = refl
mul_neg_left f (inf s) (inf t) = ap inf (unlike_not s t)
mul_neg_left f (inf s) (fin t n d) =
    ap (λ (b : Bool). cond (eqb n 0) nan (inf b)) (unlike_not s t) ∙ neg_cond_inf (eqb n 0) (unlike s t)
mul_neg_left f (fin s m e) nan = refl
mul_neg_left f (fin s m e) (inf t) =
    ap (λ (b : Bool). cond (eqb m 0) nan (inf b)) (unlike_not s t) ∙ neg_cond_inf (eqb m 0) (unlike s t)
mul_neg_left f (fin s m e) (fin t n d) =
    ap (λ (b : Bool). round f b (m * up e * (n * up d)) (down e * down d)) (unlike_not s t)
    ∙ sym (round_neg f (unlike s t) (m * up e * (n * up d)) (down e * down d))

pub mul_neg_right : MulNegRight
mul_neg_right f x y = mul_comm f x (neg y) ∙ mul_neg_left f y x ∙ ap neg (mul_comm f y x)
