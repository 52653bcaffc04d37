-- Squares are in the order of sizes, and the sign of a product that is below zero tells those of its factors. Stated in `specs/OrderLaws.antt`. Assumes
-- nothing.
use mathlib.Core.Path.{◌≡◌, refl, sym, ap, subst, ◌∙◌}
use mathlib.Core.Logic.{◌⊎◌, inl, inr}
use mathlib.Core.Bool.{Bool, true, false, cond}
use Prim.Native.Nat.{ℕ, zero, suc, ◌+◌, ◌*◌, ◌≤◌, ◌<◌, zero-le}
use native.Mathlib.Nat.{mul-le-mul, mul-le-mul_right, mul-pos, mul-zero, zero-mul}
use native.Mathlib.Omega.{arith}
use lib.Dec.{T, eqb, lt→ltb}
use lib.IntN.{ℤ}
use lib.Ieee.{Float, nan, inf, fin, Format, up, down, round, mul, lt, le}
use lib.Ieee.Fits.{up_pos, down_pos}
use lib.Ieee.Order.{round_mono}
use lib.Ieee.Scale.{finite}
use lib.Ieee.Positive.{den, den_pos}
use Rattle.ieee754.specs.Size.{abs}
use Rattle.ieee754.specs.Value.{value, zero_float}
use Rattle.ieee754.specs.OrderLaws.{number, SquareMono, ProductBelow}
use Rattle.ieee754.proofs.Rounding.{round_zero}
use Rattle.ieee754.proofs.ByValue.{zero_times}
use Rattle.ieee754.proofs.Comparisons.{le-value, lt-value}
use Rattle.ieee754.proofs.Fractions.{NotAbove, le→not_above}
use Rattle.ieee754.proofs.Order.{le_left, le_right, highest, lt_not_le}

-- ---- squares

-- the size of a finite float, over its denominator
abbrev num : Float → ℕ
num nan = 0
num (inf s) = 0
num (fin s m e) = m * up e

square_is : (f : Format) (x : Float) → T (finite x) → mul f x x ≡ round f false (num x * num x) (den x * den x)
unfolding mul
square_is f nan g = absurd g
square_is f (inf s) g = absurd g
square_is f (fin true m e) g = refl
square_is f (fin false m e) g = refl

squares : (a b c d : ℕ) → a * d + 0 * b ≤ c * b + 0 * d → a * a * (d * d) ≤ c * c * (b * b)
squares a b c d h =
    let k : a * d ≤ c * b = omega arith in
    omega (arith, mul-le-mul k k)

sizes : (x y : Float) → T (finite x) → T (finite y) → T (le (abs x) (abs y)) → NotAbove (num x) 0 (den x) (num y) 0 (den y)
unfolding abs
sizes nan y f g h = absurd f
sizes (inf s) y f g h = absurd f
sizes (fin s m e) nan f g h = absurd g
sizes (fin s m e) (inf t) f g h = absurd g
sizes (fin s m e) (fin t n d) f g h = le→not_above (fin false m e) (fin false n d) tt tt h

finite_squares : (f : Format) (x y : Float) → T (finite x) → T (finite y) → T (le (abs x) (abs y)) → T (le (mul f x x) (mul f y y))
finite_squares f x y g k h =
    subst (λ (z : Float). T (le z (mul f y y))) (sym (square_is f x g))
    (subst (λ (z : Float). T (le (round f false (num x * num x) (den x * den x)) z)) (sym (square_is f y k))
    (round_mono f (num x * num x) (den x * den x) (num y * num y) (den y * den y) (mul-pos (den_pos x) (den_pos x)) (mul-pos (den_pos y) (den_pos y))
    (squares (num x) (den x) (num y) (den y) (sizes x y g k h).bound)))

infinite_square : (f : Format) (s : Bool) → mul f (inf s) (inf s) ≡ inf false
unfolding mul
infinite_square f true = refl
infinite_square f false = refl

not_below : (f : Format) (a c : ℕ) → 0 < c → T (le zero_float (round f false a c))
not_below f a c pos-c =
    subst T (le-value (round f false 0 c) zero_float (round f false a c) (round f false a c) (round_zero f false c) refl)
    (round_mono f 0 c a c pos-c pos-c (mul-le-mul_right c zero-le))

-- a square of a number is one, and not below zero
pub square_from_zero : (f : Format) (x : Float) → T (number x) → T (le zero_float (mul f x x))
square_from_zero f nan n = absurd n
square_from_zero f (inf s) n = subst (λ (y : Float). T (le zero_float y)) (sym (infinite_square f s)) (highest zero_float tt)
square_from_zero f (fin s m e) n =
    subst (λ (y : Float). T (le zero_float y)) (sym (square_is f (fin s m e) tt))
    (not_below f (m * up e * (m * up e)) (down e * down e) (mul-pos (down_pos e) (down_pos e)))

pub square_mono : SquareMono
square_mono f nan y h = absurd (le_left nan (abs y) (unfold abs in h))
square_mono f (inf s) nan h = absurd (le_right (inf false) nan (unfold abs in h))
square_mono f (inf s) (inf t) h =
    subst (λ (z : Float). T (le z (mul f (inf t) (inf t)))) (sym (infinite_square f s))
    (subst (λ (z : Float). T (le (inf false) z)) (sym (infinite_square f t)) (highest (inf false) tt))
square_mono f (inf s) (fin t n d) h = unfold abs le in absurd h
square_mono f (fin s m e) nan h = absurd (le_right (fin false m e) nan (unfold abs in h))
square_mono f (fin s m e) (inf t) h =
    let q = mul f (fin s m e) (fin s m e) in
    subst (λ (z : Float). T (le q z)) (sym (infinite_square f t)) (highest q (le_right zero_float q (square_from_zero f (fin s m e) tt)))
square_mono f (fin s m e) (fin t n d) h = finite_squares f (fin s m e) (fin t n d) tt tt h

-- ---- products

abbrev Opposite : Float → Float → Type 0
Opposite x y = (T (lt zero_float x) × T (lt y zero_float)) ⊎ (T (lt x zero_float) × T (lt zero_float y))

-- an infinity or a number of a sign is above zero or below it
above : (m : ℕ) (e : ℤ) → T (lt zero_float (fin false (suc m) e))
unfolding lt
above m e = lt→ltb (0 * down e) (suc m * up e * 1) (let p : 0 < suc m * up e = mul-pos (omega arith) (up_pos e) in omega (arith, p))

below : (m : ℕ) (e : ℤ) → T (lt (fin true (suc m) e) zero_float)
unfolding lt
below m e = lt→ltb 0 (suc m * up e * 1 + 0 * down e) (let p : 0 < suc m * up e = mul-pos (omega arith) (up_pos e) in omega (arith, p))

times_zero : (a b : ℕ) → a * (0 * b) ≡ 0
times_zero a b = ap (λ (n : ℕ). a * n) (zero-mul b) ∙ mul-zero a

no_below : T (lt zero_float zero_float) → ⊥
unfolding lt
no_below h = h

-- a rounded zero is not below zero
zero-not_below : (f : Format) (s : Bool) (a c : ℕ) → a ≡ 0 → T (lt (round f s a c) zero_float) → ⊥
zero-not_below f s a c e h =
    let q = round f s a c in
    let z : value q ≡ value zero_float = rw e (round_zero f s c) in
    no_below (subst T (lt-value q zero_float zero_float zero_float z refl) h)

-- of two numbers, by their signs
finite_product : (f : Format) (s : Bool) (m : ℕ) (e : ℤ) (t : Bool) (n : ℕ) (d : ℤ) → T (lt (mul f (fin s m e) (fin t n d)) zero_float)
    → Opposite (fin s m e) (fin t n d)
unfolding mul
finite_product f true m e true n d h =
    absurd (lt_not_le _ zero_float h (not_below f (m * up e * (n * up d)) (down e * down d) (mul-pos (down_pos e) (down_pos d))))
finite_product f false m e false n d h =
    absurd (lt_not_le _ zero_float h (not_below f (m * up e * (n * up d)) (down e * down d) (mul-pos (down_pos e) (down_pos d))))
finite_product f true zero e false n d h =
    absurd (zero-not_below f true (0 * up e * (n * up d)) (down e * down d) (zero_times (up e) (n * up d)) h)
finite_product f false zero e true n d h =
    absurd (zero-not_below f true (0 * up e * (n * up d)) (down e * down d) (zero_times (up e) (n * up d)) h)
finite_product f true (suc m) e false zero d h =
    absurd (zero-not_below f true (suc m * up e * (0 * up d)) (down e * down d) (times_zero (suc m * up e) (up d)) h)
finite_product f false (suc m) e true zero d h =
    absurd (zero-not_below f true (suc m * up e * (0 * up d)) (down e * down d) (times_zero (suc m * up e) (up d)) h)
finite_product f true (suc m) e false (suc n) d h = inr (below m e, above n d)
finite_product f false (suc m) e true (suc n) d h = inl (above m e, below n d)

-- of an infinity and what is no zero
infinite_sign : (b s : Bool) → T (lt (cond b nan (inf s)) zero_float) → T s
unfolding lt
infinite_sign true s h = absurd h
infinite_sign false s h = h

pub product_below : ProductBelow
unfolding mul lt
product_below f nan y h = absurd h
product_below f (inf s) nan h = absurd h
product_below f (inf true) (inf true) h = absurd h
product_below f (inf true) (inf false) h = inr (tt, tt)
product_below f (inf false) (inf true) h = inl (tt, tt)
product_below f (inf false) (inf false) h = absurd h
product_below f (inf s) (fin t zero d) h = absurd h
product_below f (inf true) (fin true (suc n) d) h = absurd (infinite_sign (eqb (suc n) 0) false h)
product_below f (inf true) (fin false (suc n) d) h = inr (tt, above n d)
product_below f (inf false) (fin true (suc n) d) h = inl (tt, below n d)
product_below f (inf false) (fin false (suc n) d) h = absurd (infinite_sign (eqb (suc n) 0) false h)
product_below f (fin s m e) nan h = absurd h
product_below f (fin s zero e) (inf t) h = absurd h
product_below f (fin true (suc m) e) (inf true) h = absurd (infinite_sign (eqb (suc m) 0) false h)
product_below f (fin true (suc m) e) (inf false) h = inr (below m e, tt)
product_below f (fin false (suc m) e) (inf true) h = inl (above m e, tt)
product_below f (fin false (suc m) e) (inf false) h = absurd (infinite_sign (eqb (suc m) 0) false h)
product_below f (fin s m e) (fin t n d) h = finite_product f s m e t n d h
