-- The comparisons depend on the operands' values alone, equality may be turned round, and a negation turns the comparisons with zero round.
-- For all floats, NaN and the infinities included. Assumes nothing.
use mathlib.Core.Path.{◌≡◌, refl, sym, ap, ap₂, ◌∙◌, subst}
use Prim.Native.Nat.{ℕ, zero, suc, ◌*◌, ◌<◌}
use native.Mathlib.Nat.{zero-mul, zero-add, add-zero, mul-pos, zero-lt-suc}
use native.Mathlib.Omega.{arith}
use mathlib.Core.Bool.{Bool, true, false, not, ◌&&◌, ◌||◌, beq, not-not}
use lib.Dec.{T, ltb, eqb, ltb→lt, lt→ltb, leb-suc-zero, eqb-zero-suc, eqb→eq}
use lib.IntN.{ℤ, pos}
use lib.Ieee.{Float, nan, inf, fin, up, down, below, level, neg, lt, eq, le, ne}
use lib.Ieee.Fits.{up_pos, down_pos, and_i, and_l, and_r, eq→eqb}
use lib.Ieee.Positive.{first_pos}
use Rattle.ieee754.specs.Value.{Value, value, zero_float, float}
use Rattle.ieee754.specs.ValueLaws.{LtValue, EqValue, LeValue, NeValue, EqZero}
use Rattle.ieee754.proofs.ByValue.{zero_times}

same_test : (a b : Bool) → (T a → T b) → (T b → T a) → a ≡ b
same_test true true f g = refl
same_test true false f g = absurd (f tt)
same_test false true f g = absurd (g tt)
same_test false false f g = refl

pos_scale : (x d : ℕ) → 0 < d → ltb 0 (x * d) ≡ ltb 0 x
pos_scale x d D =
    same_test (ltb 0 (x * d)) (ltb 0 x) (λ (t : T (ltb 0 (x * d))). lt→ltb 0 x (first_pos x d (ltb→lt 0 (x * d) t)))
    (λ (t : T (ltb 0 x)). lt→ltb 0 (x * d) (mul-pos (ltb→lt 0 x t) D))

-- ---- `lt` with a zero: whatever the zero's sign, and however it is written
below_zero_l : (s t : Bool) (b : ℕ) → below s 0 t b ≡ (not t && ltb 0 b)
below_zero_l false false b = refl
below_zero_l false true b = refl
below_zero_l true false b = ap (ltb 0) (zero-add b)
below_zero_l true true b = leb-suc-zero b

below_zero_r : (s t : Bool) (b : ℕ) → below t b s 0 ≡ (t && ltb 0 b)
below_zero_r false false b = leb-suc-zero b
below_zero_r true false b = refl
below_zero_r false true b = ap (ltb 0) (add-zero b)
below_zero_r true true b = refl

pub lt-zero_l : (s : Bool) (e : ℤ) (t : Bool) (n : ℕ) (d : ℤ) → lt (fin s 0 e) (fin t n d) ≡ (not t && ltb 0 (n * up d))
unfolding lt
lt-zero_l s e t n d =
    ap (λ (a : ℕ). below s a t (n * up d * down e)) (zero_times (up e) (down d))
    ∙ below_zero_l s t (n * up d * down e)
    ∙ ap (λ (b : Bool). not t && b) (pos_scale (n * up d) (down e) (down_pos e))

lt-zero_r : (s : Bool) (e : ℤ) (t : Bool) (n : ℕ) (d : ℤ) → lt (fin t n d) (fin s 0 e) ≡ (t && ltb 0 (n * up d))
unfolding lt
lt-zero_r s e t n d =
    ap (λ (a : ℕ). below t (n * up d * down e) s a) (zero_times (up e) (down d))
    ∙ below_zero_r s t (n * up d * down e)
    ∙ ap (λ (b : Bool). t && b) (pos_scale (n * up d) (down e) (down_pos e))

lt-float_l : (x y : Float) → lt x y ≡ lt (float (value x)) y
lt-float_l nan y = refl
lt-float_l (inf s) y = refl
lt-float_l (fin s zero e) nan = unfold lt in refl
lt-float_l (fin s zero e) (inf t) = unfold lt in refl
lt-float_l (fin s zero e) (fin t n d) = lt-zero_l s e t n d ∙ sym (lt-zero_l false (pos 0) t n d)
lt-float_l (fin s (suc m) e) y = refl

lt-float_r : (x y : Float) → lt x y ≡ lt x (float (value y))
lt-float_r x nan = refl
lt-float_r x (inf s) = refl
lt-float_r nan (fin s zero e) = unfold lt in refl
lt-float_r (inf t) (fin s zero e) = unfold lt in refl
lt-float_r (fin t n d) (fin s zero e) = lt-zero_r s e t n d ∙ sym (lt-zero_r false (pos 0) t n d)
lt-float_r x (fin s (suc m) e) = refl

pub lt-value : LtValue
lt-value x x' y y' p q =
    lt-float_l x y
    ∙ lt-float_r (float (value x)) y
    ∙ ap₂ (λ (v w : Value). lt (float v) (float w)) p q
    ∙ sym (lt-float_r (float (value x')) y')
    ∙ sym (lt-float_l x' y')

-- ---- `eq` is symmetric
beq_comm : (s t : Bool) → beq s t ≡ beq t s
beq_comm true true = refl
beq_comm true false = refl
beq_comm false true = refl
beq_comm false false = refl

level-turn : (s : Bool) (a : ℕ) (t : Bool) (b : ℕ) → T (level s a t b) → T (level t b s a)
level-turn s a t b h =
    let p : a ≡ b = eqb→eq a b (and_l (eqb a b) (beq s t || eqb a 0) h) in
    and_i (eqb b a) (beq t s || eqb b 0) (eq→eqb (sym p))
    (subst (λ (n : ℕ). T (beq t s || eqb n 0)) p (subst (λ (x : Bool). T (x || eqb a 0)) (beq_comm s t) (and_r (eqb a b) (beq s t || eqb a 0) h)))

pub eq_comm : (x y : Float) → eq x y ≡ eq y x
unfolding eq
eq_comm nan nan = refl
eq_comm nan (inf t) = refl
eq_comm nan (fin t n d) = refl
eq_comm (inf s) nan = refl
eq_comm (inf s) (inf t) = beq_comm s t
eq_comm (inf s) (fin t n d) = refl
eq_comm (fin s m e) nan = refl
eq_comm (fin s m e) (inf t) = refl
eq_comm (fin s m e) (fin t n d) =
    let a = m * up e * down d in
    let b = n * up d * down e in
    same_test (level s a t b) (level t b s a) (level-turn s a t b) (level-turn t b s a)

-- ---- `eq` with a zero
level-zero : (s t : Bool) (b : ℕ) → level s 0 t b ≡ eqb 0 b
level-zero s t b = go (eqb 0 b) s t
  where
    go : (x s t : Bool) → (x && (beq s t || true)) ≡ x
    go false s t = refl
    go true true true = refl
    go true true false = refl
    go true false true = refl
    go true false false = refl

not-zero : (a : ℕ) → 0 < a → 0 ≡ a → ⊥
not-zero a h p = omega arith

zero_scale : (x d : ℕ) → 0 < d → eqb 0 (x * d) ≡ eqb 0 x
zero_scale zero d D = ap (eqb 0) (zero-mul d)
zero_scale (suc x) d D =
    same_test (eqb 0 (suc x * d)) (eqb 0 (suc x))
    (λ (t : T (eqb 0 (suc x * d))). absurd (not-zero (suc x * d) (mul-pos (zero-lt-suc x) D) (eqb→eq 0 (suc x * d) t)))
    (λ (t : T (eqb 0 (suc x))). absurd (not-zero (suc x) (zero-lt-suc x) (eqb→eq 0 (suc x) t)))

eq-zero_l : (s : Bool) (e : ℤ) (t : Bool) (n : ℕ) (d : ℤ) → eq (fin s 0 e) (fin t n d) ≡ eqb 0 (n * up d)
unfolding eq
eq-zero_l s e t n d =
    ap (λ (a : ℕ). level s a t (n * up d * down e)) (zero_times (up e) (down d))
    ∙ level-zero s t (n * up d * down e)
    ∙ zero_scale (n * up d) (down e) (down_pos e)

eq-zero_r : (t : Bool) (n : ℕ) (d : ℤ) → eq (fin t n d) zero_float ≡ eqb 0 n
eq-zero_r t n d = eq_comm (fin t n d) zero_float ∙ eq-zero_l false (pos 0) t n d ∙ zero_scale n (up d) (up_pos d)

pub eq-zero : EqZero
eq-zero nan = unfold eq in refl
eq-zero (inf s) = unfold eq in refl
eq-zero (fin s zero e) = eq-zero_r s zero e
eq-zero (fin s (suc m) e) = eq-zero_r s (suc m) e ∙ eqb-zero-suc m

eq-float_l : (x y : Float) → eq x y ≡ eq (float (value x)) y
eq-float_l nan y = refl
eq-float_l (inf s) y = refl
eq-float_l (fin s zero e) nan = unfold eq in refl
eq-float_l (fin s zero e) (inf t) = unfold eq in refl
eq-float_l (fin s zero e) (fin t n d) = eq-zero_l s e t n d ∙ sym (eq-zero_l false (pos 0) t n d)
eq-float_l (fin s (suc m) e) y = refl

eq-value_l : (x x' y : Float) → value x ≡ value x' → eq x y ≡ eq x' y
eq-value_l x x' y p = eq-float_l x y ∙ ap (λ (v : Value). eq (float v) y) p ∙ sym (eq-float_l x' y)

pub eq-value : EqValue
eq-value x x' y y' p q = eq-value_l x x' y p ∙ eq_comm x' y ∙ eq-value_l y y' x' q ∙ eq_comm y' x'

pub le-value : LeValue
unfolding le
le-value x x' y y' p q = ap₂ (λ (a b : Bool). a || b) (lt-value x x' y y' p q) (eq-value x x' y y' p q)

pub ne-value : NeValue
unfolding ne
ne-value x x' y y' p q = ap not (eq-value x x' y y' p q)

-- ---- the sign
pub neg_pos : (x : Float) → lt (neg x) zero_float ≡ lt zero_float x
neg_pos nan = unfold neg lt in refl
neg_pos (inf s) = unfold neg lt in refl
neg_pos (fin s m e) = unfold neg in lt-zero_r false (pos 0) (not s) m e ∙ sym (lt-zero_l false (pos 0) s m e)

pub pos_neg : (x : Float) → lt zero_float (neg x) ≡ lt x zero_float
pos_neg nan = unfold neg lt in refl
pos_neg (inf s) = unfold neg lt in not-not s
pos_neg (fin s m e) =
    unfold neg in lt-zero_l false (pos 0) (not s) m e ∙ ap (λ (b : Bool). b && ltb 0 (m * up e)) (not-not s) ∙ sym (lt-zero_r false (pos 0) s m e)

pub not_both_signs : (x : Float) → T (lt zero_float x) → T (lt x zero_float) → ⊥
not_both_signs nan p q = unfold lt in p
not_both_signs (inf true) p q = unfold lt in p
not_both_signs (inf false) p q = unfold lt in q
not_both_signs (fin s m e) p q = apart s (ltb 0 (m * up e)) (subst T (lt-zero_l false (pos 0) s m e) p) (subst T (lt-zero_r false (pos 0) s m e) q)
  where
    apart : (s b : Bool) → T (not s && b) → T (s && b) → ⊥
    apart true b p q = p
    apart false b p q = q
