-- A float's size in units of its format's smallest value: that nothing is lost, how large it can be, and that it and the sign are all there is of a float.
-- For both formats. Assumes nothing.
use mathlib.Core.Path.{◌≡◌, refl, sym, ap, ◌∙◌, subst}
use mathlib.Core.Bool.{Bool, true, false, not, ◌&&◌}
use Prim.Native.Nat.{ℕ, zero, suc, ◌+◌, ◌-◌, ◌*◌, ◌/◌, ◌%◌, ◌^◌, ◌≤◌, ◌<◌}
use native.Mathlib.Nat.{le_of_eq, lt_of_lt_of_le, lt_of_le_of_lt, lt_irrefl, lt_of_not-le, zero-mul, zero-div, mul-one, mul_assoc, mul_comm, mul_right_comm}
use native.Mathlib.Nat.{mul-pos, mul-le-mul_right, mul-div_cancel, mul-lt-mul_of_pos_right, div-lt_iff_lt-mul}
use native.Mathlib.Decide.{dec_le}
use native.Mathlib.Omega.{arith}
use lib.IntN.{ℤ, pos, negsuc}
use lib.Dec.{T, leb, eqb, ltb, leb→le, ltb→lt}
use lib.Pow.{pow-add, pow_pos, pow-lt}
use lib.Ieee.{Float, nan, inf, fin, Format, prec, emax, low, hid, up, down, size, neg, fits, of_bits, to_bits}
use lib.Ieee.Digits.{back}
use lib.Ieee.Fits.{down_pos, up_pos, and_l, and_r}
use lib.Ieee.Bits.{of_bits-to_bits}
use lib.Ieee.Exact.{HasValue}
use lib.Ieee.Positive.{positive, first_pos}
use lib.Ieee.Scale.{finite, overflow}
use Rattle.ieee754.specs.Size.{abs}
use Rattle.ieee754.specs.Bound.{AtMost}
use Rattle.ieee754.specs.Units.{not_negative, units_in}
use Rattle.ieee754.specs.RoundingLaws.{ExactUnits}

-- ---- what a format holds

-- three of the bounds that `fits` tests
pub in_format : (f : Format) (s : Bool) (m : ℕ) (e : ℤ) → T (fits f (fin s (suc m) e))
    → (suc m < 2 ^ prec f) × (down e ≤ 2 ^ low f) × (suc m * up e < 2 ^ suc (emax f) * down e)
unfolding fits
in_format f s m e F =
    let A = eqb (suc m % 2) 1 in
    let B = ltb (suc m) (2 ^ prec f) in
    let C = leb (down e) (2 ^ low f) in
    let D = ltb (suc m * up e) (2 ^ suc (emax f) * down e) in (
      ltb→lt (suc m) (2 ^ prec f) (and_r A B (and_l (A && B) C (and_l (A && B && C) D F))),
      leb→le (down e) (2 ^ low f) (and_r (A && B) C (and_l (A && B && C) D F)),
      ltb→lt (suc m * up e) (2 ^ suc (emax f) * down e) (and_r (A && B && C) D F),
    )

-- how many places above the smallest value's the exponent e is
abbrev pub place_of : Format → ℤ → ℕ
place_of f (pos a) = a + low f
place_of f (negsuc a) = low f - suc a

le_of_pow_le : (i j : ℕ) → 2 ^ i ≤ 2 ^ j → i ≤ j
le_of_pow_le i j h = go (dec_le i j)
  where
    go : Dec (i ≤ j) → i ≤ j
    go (yes k) = k
    go (no k) = absurd (lt_irrefl (2 ^ j) (lt_of_lt_of_le (pow-lt (lt_of_not-le k)) h))

pub at_place : (f : Format) (m : ℕ) (e : ℤ) → down e ≤ 2 ^ low f → m * up e * 2 ^ low f ≡ m * 2 ^ place_of f e * down e
at_place f m (pos a) d = mul_assoc m (2 ^ a) (2 ^ low f) ∙ ap (λ (x : ℕ). m * x) (sym (pow-add 2 a (low f))) ∙ sym (mul-one (m * 2 ^ (a + low f)))
at_place f m (negsuc a) d =
    ap (λ (x : ℕ). x * 2 ^ low f) (mul-one m)
    ∙ ap (λ (x : ℕ). m * x) (ap (λ (x : ℕ). 2 ^ x) (sym (back (low f) (suc a) (le_of_pow_le (suc a) (low f) d))) ∙ pow-add 2 (low f - suc a) (suc a))
    ∙ sym (mul_assoc m (2 ^ (low f - suc a)) (2 ^ suc a))

-- ---- the size

pub zero_units : (f : Format) (s : Bool) (e : ℤ) → units_in f (fin s 0 e) ≡ 0
zero_units f s e = ap (λ (x : ℕ). x * 2 ^ low f / down e) (zero-mul (up e)) ∙ ap (λ (x : ℕ). x / down e) (zero-mul (2 ^ low f)) ∙ zero-div (down e)

pub units_of : (f : Format) (x : Float) (s : Bool) (a : ℕ) → HasValue x s a (2 ^ low f) → units_in f x ≡ a
units_of f nan s a h = absurd h
units_of f (inf t) s a h = absurd h
units_of f (fin t m e) s a h = ap (λ (x : ℕ). x / down e) h.1 ∙ mul-div_cancel a (down_pos e)

pub exact_units : ExactUnits
exact_units f s zero e F =
    ap (λ (z : ℕ). z * 2 ^ low f) (zero-mul (up e)) ∙ zero-mul (2 ^ low f) ∙ sym (zero-mul (down e)) ∙ ap (λ (z : ℕ). z * down e) (sym (zero_units f s e))
exact_units f s (suc m) e F =
    let p : suc m * up e * 2 ^ low f ≡ suc m * 2 ^ place_of f e * down e = at_place f (suc m) e (in_format f s m e F).1 in
    p ∙ ap (λ (z : ℕ). z * down e) (sym (units_of f (fin s (suc m) e) s (suc m * 2 ^ place_of f e) (refl, p)))

pub value-not_negative : (x : Float) (a c : ℕ) → HasValue x false a c → T (not_negative x)
value-not_negative nan a c h = absurd h
value-not_negative (inf s) a c h = absurd h
value-not_negative (fin s m e) a c h = subst (λ (b : Bool). T (not b)) (sym h.0) tt

pub not_negative_finite : (x : Float) → T (not_negative x) → T (finite x)
not_negative_finite nan p = absurd p
not_negative_finite (inf s) p = absurd p
not_negative_finite (fin s m e) p = tt

pub neg_units : (f : Format) (x : Float) → units_in f (neg x) ≡ units_in f x
unfolding neg
neg_units f nan = refl
neg_units f (inf s) = refl
neg_units f (fin s m e) = refl

pub abs_units : (f : Format) (x : Float) → units_in f (abs x) ≡ units_in f x
unfolding abs
abs_units f nan = refl
abs_units f (inf s) = refl
abs_units f (fin s m e) = refl

pub abs_fits : (f : Format) (x : Float) → T (fits f x) → T (fits f (abs x))
unfolding abs fits
abs_fits f nan F = F
abs_fits f (inf s) F = tt
abs_fits f (fin s zero e) F = F
abs_fits f (fin s (suc m) e) F = F

pub abs-not_negative : (x : Float) → T (finite x) → T (not_negative (abs x))
unfolding abs
abs-not_negative nan h = h
abs-not_negative (inf s) h = h
abs-not_negative (fin s m e) h = tt

-- a float from -1 to 1
small_quotient : (a d m : ℕ) → 0 < d → a ≤ 1 * d → a * m / d ≤ m
small_quotient a d m D h =
    let l : a * m / d < suc m = (div-lt_iff_lt-mul D).1 (omega (arith, mul-le-mul_right m h)) in
    omega arith

pub at_most_one_units : (f : Format) (x : Float) → AtMost 0 x → units_in f x ≤ 2 ^ low f
at_most_one_units f nan h = absurd h
at_most_one_units f (inf s) h = absurd h
at_most_one_units f (fin s m e) h = small_quotient (m * up e) (down e) (2 ^ low f) (down_pos e) h

pub units_lt : (f : Format) (x : Float) → T (fits f x) → units_in f x < overflow f
units_lt f nan F = pow_pos (low f + suc (emax f))
units_lt f (inf s) F = pow_pos (low f + suc (emax f))
units_lt f (fin s zero e) F = lt_of_le_of_lt (le_of_eq (zero_units f s e)) (pow_pos (low f + suc (emax f)))
units_lt f (fin s (suc m) e) F =
    let top = 2 ^ suc (emax f) in
    let same : top * down e * 2 ^ low f ≡ overflow f * down e =
    mul_right_comm top (down e) (2 ^ low f) ∙ ap (λ (x : ℕ). x * down e) (mul_comm top (2 ^ low f) ∙ sym (pow-add 2 (low f) (suc (emax f)))) in
    (div-lt_iff_lt-mul (down_pos e)).1 (lt_of_lt_of_le (mul-lt-mul_of_pos_right (in_format f s m e F).2 (pow_pos (low f))) (le_of_eq same))

-- ---- above zero, by the size

pub positive_units : (f : Format) (x : Float) → T (fits f x) → T (positive x) → 0 < units_in f x
positive_units f nan F p = absurd p
positive_units f (inf s) F p = absurd p
positive_units f (fin true n d) F p = absurd p
positive_units f (fin false n d) F p =
    first_pos (units_in f (fin false n d)) (down d)
    (subst (λ (z : ℕ). 0 < z) (exact_units f false n d F) (mul-pos (mul-pos (ltb→lt 0 n p) (up_pos d)) (pow_pos (low f))))

-- ---- from the size to the pattern, so two floats from 0 up of one size are one

pub bits_of : (f : Format) (x : Float) → T (not_negative x)
    → to_bits f x ≡ 0 + (size (units_in f x) - prec f) * hid f + units_in f x / 2 ^ (size (units_in f x) - prec f)
unfolding to_bits
bits_of f nan p = absurd p
bits_of f (inf s) p = absurd p
bits_of f (fin true m e) p = absurd p
bits_of f (fin false m e) p = refl

pub same_units : (f : Format) (x y : Float) → T (fits f x) → T (fits f y) → T (not_negative x) → T (not_negative y) → units_in f x ≡ units_in f y → x ≡ y
same_units f x y F G p q e =
    sym (of_bits-to_bits f x F)
    ∙ ap (of_bits f) (bits_of f x p ∙ ap (λ (n : ℕ). 0 + (size n - prec f) * hid f + n / 2 ^ (size n - prec f)) e ∙ sym (bits_of f y q))
    ∙ of_bits-to_bits f y G
