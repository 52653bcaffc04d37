-- How far a product, a sum and a quotient lie from the exact one, and that a sum of two floats from 0 up is no smaller than either. Each operation is
-- `round` of a fraction, which is written over whole units here. For both formats. Assumes nothing.
use mathlib.Core.Path.{◌≡◌, refl, sym, ap, ◌∙◌, subst}
use mathlib.Core.Bool.{Bool, true, false, cond}
use Prim.Native.Nat.{ℕ, zero, suc, ◌+◌, ◌*◌, ◌^◌, ◌≤◌, ◌<◌, zero-le}
use native.Mathlib.Nat.{le_trans, le_of_eq, one-mul, mul_assoc, mul-pos, mul-mul-mul_comm, eq_of_mul-eq-mul_right, zero-lt-suc}
use native.Mathlib.Omega.{arith}
use lib.IntN.{ℤ}
use lib.Dec.{T, eqb, eqb→eq}
use lib.Pow.{pow_pos}
use lib.Ieee.{Float, nan, inf, fin, Format, prec, low, up, down, unlike, round, mul, add, div, fits}
use lib.Ieee.Fits.{down_pos, up_pos}
use lib.Ieee.Positive.{first_pos}
use lib.Ieee.Scale.{round_same, grid, finite, round_val, round_under}
use Rattle.ieee754.specs.Bound.{AtMost}
use Rattle.ieee754.specs.Units.{not_negative, units_in}
use Rattle.ieee754.specs.Closeness.{Close}
use Rattle.ieee754.specs.RoundingLaws.{ProductClose, SumClose, SumFrom, QuotientClose, QuotientAtMostOne}
use Rattle.ieee754.proofs.Bounds.{round_at_most}
use Rattle.ieee754.proofs.Units.{exact_units, zero_units, value-not_negative}
use Rattle.ieee754.proofs.Closeness.{close_cancel}
use Rattle.ieee754.proofs.Rounded.{round_close, whole_close, round_from}

round_not_negative : (f : Format) (a c : ℕ) → T (finite (round f false a c)) → T (not_negative (round f false a c))
round_not_negative f a c h = value-not_negative (round f false a c) (grid f a c) (2 ^ low f) (round_val f a c (round_under f a c h))

-- a NaN or an infinity is not finite, whichever of the two it is
no_number : (b s : Bool) → T (finite (cond b nan (inf s))) → ⊥
no_number true s h = h
no_number false s h = h

-- ---- the product

product_fraction : (a b m x y d c : ℕ) → a * m ≡ x * d → b * m ≡ y * c → a * b * (m * m) ≡ x * y * (d * c)
product_fraction a b m x y d c h k =
    mul-mul-mul_comm a b m m ∙ ap (λ (z : ℕ). z * (b * m)) h ∙ ap (λ (z : ℕ). x * d * z) k ∙ sym (mul-mul-mul_comm x y d c)

product_units : (f : Format) (s : Bool) (m : ℕ) (e : ℤ) (t : Bool) (n : ℕ) (d : ℤ) → T (fits f (fin s m e)) → T (fits f (fin t n d))
    → mul f (fin s m e) (fin t n d) ≡ round f (unlike s t) (units_in f (fin s m e) * units_in f (fin t n d)) (2 ^ low f * 2 ^ low f)
unfolding mul
product_units f s m e t n d F G =
    let x = units_in f (fin s m e) in
    let y = units_in f (fin t n d) in
    let c = 2 ^ low f in
    let C : 0 < c * c = mul-pos (pow_pos (low f)) (pow_pos (low f)) in
    round_same f (unlike s t) (m * up e * (n * up d)) (down e * down d) (x * y) (c * c) (mul-pos (down_pos e) (down_pos d)) C
    (product_fraction (m * up e) (n * up d) c x y (down e) (down d) (exact_units f s m e F) (exact_units f t n d G))

one_less : (u x y p m : ℕ) → 0 < m → Close u (x * y * m) (p * (m * m)) (m * m) → Close u (x * y) (p * m) m
one_less u x y p m M h = close_cancel {a = x * y} {b = p * m} {e = m} m M (subst (λ (z : ℕ). Close u (x * y * m) z (m * m)) (sym (mul_assoc p m m)) h)

pub product_close : ProductClose
product_close f nan y F G h = unfold mul in absurd h
product_close f (inf s) nan F G h = unfold mul in absurd h
product_close f (inf s) (inf t) F G h = unfold mul in absurd h
product_close f (inf s) (fin t n d) F G h = absurd (no_number (eqb n 0) (unlike s t) (unfold mul in h))
product_close f (fin s m e) nan F G h = unfold mul in absurd h
product_close f (fin s m e) (inf t) F G h = absurd (no_number (eqb m 0) (unlike s t) (unfold mul in h))
product_close f (fin s m e) (fin t n d) F G h =
    let x = units_in f (fin s m e) in
    let y = units_in f (fin t n d) in
    let c = 2 ^ low f in
    let is = product_units f s m e t n d F G in
    subst (λ (z : Float). Close (2 ^ prec f) (x * y) (units_in f z * c) c) (sym is)
    (one_less (2 ^ prec f) x y (units_in f (round f (unlike s t) (x * y) (c * c))) c (pow_pos (low f))
    (round_close f (unlike s t) (x * y) (c * c) (mul-pos (pow_pos (low f)) (pow_pos (low f))) (subst (λ (z : Float). T (finite z)) is h)))

-- a square is not negative
pub square_not_negative : (f : Format) (x : Float) → T (finite (mul f x x)) → T (not_negative (mul f x x))
unfolding mul
square_not_negative f nan h = absurd h
square_not_negative f (inf s) h = absurd h
square_not_negative f (fin true m e) h = round_not_negative f (m * up e * (m * up e)) (down e * down e) h
square_not_negative f (fin false m e) h = round_not_negative f (m * up e * (m * up e)) (down e * down e) h

-- ---- the sum of two that are not negative

sum_fraction : (a b m x y d c : ℕ) → a * m ≡ x * d → b * m ≡ y * c → (a * c + b * d) * m ≡ (x + y) * (d * c)
sum_fraction a b m x y d c h k = omega (arith, ap (λ (z : ℕ). z * c) h, ap (λ (z : ℕ). z * d) k)

sum_units : (f : Format) (x y : Float) → T (fits f x) → T (fits f y) → T (not_negative x) → T (not_negative y)
    → add f x y ≡ round f false (units_in f x + units_in f y) (2 ^ low f)
unfolding add
sum_units f nan y F G p q = absurd p
sum_units f (inf s) y F G p q = absurd p
sum_units f (fin true m e) y F G p q = absurd p
sum_units f (fin false m e) nan F G p q = absurd q
sum_units f (fin false m e) (inf t) F G p q = absurd q
sum_units f (fin false m e) (fin true n d) F G p q = absurd q
sum_units f (fin false m e) (fin false n d) F G p q =
    let x = units_in f (fin false m e) in
    let y = units_in f (fin false n d) in
    round_same f false (m * up e * down d + n * up d * down e) (down e * down d) (x + y) (2 ^ low f) (mul-pos (down_pos e) (down_pos d)) (pow_pos (low f))
    (sum_fraction (m * up e) (n * up d) (2 ^ low f) x y (down e) (down d) (exact_units f false m e F) (exact_units f false n d G))

first_le : (a b c : ℕ) → a * c ≤ (a + b) * c
first_le a b c = omega arith

second_le : (a b c : ℕ) → b * c ≤ (a + b) * c
second_le a b c = omega arith

module _ (f : Format) (x y : Float) (F : T (fits f x)) (G : T (fits f y)) (p : T (not_negative x)) (q : T (not_negative y)) (h : T (finite (add f x y))) where
  abbrev rounded : Float
  rounded = round f false (units_in f x + units_in f y) (2 ^ low f)

  -- a law of the rounded sum is one of `add`'s
  of_sum : (P : Float → Type 0) → (T (finite rounded) → P rounded) → P (add f x y)
  of_sum P law = let is = sum_units f x y F G p q in subst P (sym is) (law (subst (λ (z : Float). T (finite z)) is h))

  pub sum-not_negative : T (not_negative (add f x y))
  sum-not_negative = of_sum (λ (z : Float). T (not_negative z)) (round_not_negative f (units_in f x + units_in f y) (2 ^ low f))

  close : Close (2 ^ prec f) (units_in f x + units_in f y) (units_in f (add f x y)) 0
  close = of_sum (λ (z : Float). Close (2 ^ prec f) (units_in f x + units_in f y) (units_in f z) 0) (whole_close f false (units_in f x + units_in f y))

  from : (v : Float) → T (fits f v) → units_in f v * 2 ^ low f ≤ (units_in f x + units_in f y) * 2 ^ low f → units_in f v ≤ units_in f (add f x y)
  from v H l = of_sum (λ (z : Float). units_in f v ≤ units_in f z) (round_from f v false (units_in f x + units_in f y) (2 ^ low f) H (pow_pos (low f)) l)

pub sum_close : SumClose
sum_close = close

pub sum_from : SumFrom
sum_from f x y F G p q h = (
  from f x y F G p q h x F (first_le (units_in f x) (units_in f y) (2 ^ low f)),
  from f x y F G p q h y G (second_le (units_in f x) (units_in f y) (2 ^ low f)),
)

-- ---- the quotient

quotient_fraction : (a b m x y d c : ℕ) → 0 < m → a * m ≡ x * d → b * m ≡ y * c → a * c * y ≡ x * (b * d)
quotient_fraction a b m x y d c M h k =
    eq_of_mul-eq-mul_right m M (a * c * y) (x * (b * d)) (omega (arith, ap (λ (z : ℕ). z * (c * y)) h, ap (λ (z : ℕ). z * (x * d)) k))

-- by a number that is not zero
module _ (f : Format) (s : Bool) (m : ℕ) (e : ℤ) (t : Bool) (n : ℕ) (d : ℤ) (F : T (fits f (fin s m e))) (G : T (fits f (fin t (suc n) d))) where
  abbrev dividend : ℕ
  dividend = units_in f (fin s m e)

  abbrev divisor : ℕ
  divisor = units_in f (fin t (suc n) d)

  divisor_pos : 0 < divisor
  divisor_pos =
      first_pos divisor (down d) (subst (λ (z : ℕ). 0 < z) (exact_units f t (suc n) d G) (mul-pos (mul-pos (zero-lt-suc n) (up_pos d)) (pow_pos (low f))))

  abbrev quotient : Float
  quotient = div f (fin s m e) (fin t (suc n) d)

  same_fraction : m * up e * down d * divisor ≡ dividend * (suc n * up d * down e)
  same_fraction =
      quotient_fraction (m * up e) (suc n * up d) (2 ^ low f) dividend divisor (down e) (down d) (pow_pos (low f))
      (exact_units f s m e F) (exact_units f t (suc n) d G)

  not-zero : (b : Bool) (x y : Float) → (T b → suc n ≡ 0) → cond b x y ≡ y
  not-zero true x y h = let z : suc n ≡ 0 = h tt in absurd (omega arith)
  not-zero false x y h = refl

  quotient_units : quotient ≡ round f (unlike s t) dividend divisor
  unfolding div
  quotient_units =
      let C : 0 < suc n * up d * down e = mul-pos (mul-pos (zero-lt-suc n) (up_pos d)) (down_pos e) in
      not-zero (eqb (suc n) 0) _ _ (eqb→eq (suc n) 0)
      ∙ round_same f (unlike s t) (m * up e * down d) (suc n * up d * down e) dividend divisor C divisor_pos same_fraction

  quotient_near : T (finite quotient) → Close (2 ^ prec f) (dividend * 2 ^ low f) (units_in f quotient * divisor) divisor
  quotient_near h =
      subst (λ (z : Float). Close (2 ^ prec f) (dividend * 2 ^ low f) (units_in f z * divisor) divisor) (sym quotient_units)
      (round_close f (unlike s t) dividend divisor divisor_pos (subst (λ (z : Float). T (finite z)) quotient_units h))

  quotient_one : dividend ≤ divisor → AtMost 0 quotient
  quotient_one l =
      let one : dividend ≤ 1 * divisor = le_trans l (le_of_eq (sym (one-mul divisor))) in
      subst (AtMost 0) (sym quotient_units) (round_at_most f (unlike s t) dividend divisor 0 divisor_pos zero-le one)

-- by zero
by_zero : (f : Format) (s : Bool) (m : ℕ) (e : ℤ) (t : Bool) (d : ℤ) → T (finite (div f (fin s m e) (fin t 0 d))) → ⊥
unfolding div
by_zero f s m e t d h = no_number (eqb m 0) (unlike s t) h

pub quotient_close : QuotientClose
quotient_close f nan y F G g h = unfold div in absurd h
quotient_close f (inf s) nan F G g h = unfold div in absurd h
quotient_close f (inf s) (inf t) F G g h = unfold div in absurd h
quotient_close f (inf s) (fin t n d) F G g h = unfold div in absurd h
quotient_close f (fin s m e) nan F G g h = absurd g
quotient_close f (fin s m e) (inf t) F G g h = absurd g
quotient_close f (fin s m e) (fin t zero d) F G g h = absurd (by_zero f s m e t d h)
quotient_close f (fin s m e) (fin t (suc n) d) F G g h = quotient_near f s m e t n d F G h

pub quotient_at_most_one : QuotientAtMostOne
quotient_at_most_one f nan y F G g p l = absurd g
quotient_at_most_one f (inf s) y F G g p l = absurd g
quotient_at_most_one f (fin s m e) nan F G g p l = absurd (omega arith)
quotient_at_most_one f (fin s m e) (inf t) F G g p l = absurd (omega arith)
quotient_at_most_one f (fin s m e) (fin t zero d) F G g p l = absurd (let z = zero_units f t d in omega arith)
quotient_at_most_one f (fin s m e) (fin t (suc n) d) F G g p l = quotient_one f s m e t n d F G l
