-- How far `round` goes: by at most the result's 2 ^ -prec-th part and one unit, and without that unit where the exact number is whole units. And in which
-- order its results are. For both formats. Assumes nothing.
use mathlib.Core.Path.{◌≡◌, refl, sym, ap, ◌∙◌, subst}
use mathlib.Core.Logic.{◌⊎◌, inl, inr}
use mathlib.Core.Bool.{Bool, true, false, not}
use Prim.Native.Nat.{ℕ, suc, ◌+◌, ◌-◌, ◌*◌, ◌/◌, ◌%◌, ◌^◌, ◌≤◌, ◌<◌, zero-le, compare, Ordering}
use native.Mathlib.Nat.{le_trans, le_of_eq, eq-zero-or-pos, mul-one, mul-pos, mul-le-mul_left, mul-le-mul_right, le_of_mul-le-mul_right, mod-lt, div-add-mod'}
use native.Mathlib.Nat.{div-div-eq-div-mul, le-div_iff_mul-le, two-pow-succ}
use native.Mathlib.Omega.{arith}
use lib.Dec.{T, is_le, compare_is_eq, eqb, leb→le, nleb→lt, eqb→eq, eqb_refl}
use lib.Arith.{lt_of_le-ne}
use lib.Pow.{pow-add, pow_pos}
use lib.Ieee.{Float, nan, inf, fin, Format, prec, emax, low, size, nearest, round, neg, le, fits}
use lib.Ieee.Digits.{size_reaches}
use lib.Ieee.Exact.{HasValue, round_exact}
use lib.Ieee.Fits.{two, two-le_pos}
use lib.Ieee.Nearest.{closest, nearest-ge}
use lib.Ieee.Order.{drop, kept, round_mono}
use lib.Ieee.Positive.{positive, above, above_of_le, positive_of_value, values_of_le}
use lib.Ieee.Scale.{grid, finite, round_val, round_under}
use Rattle.ieee754.specs.Units.{units_in}
use Rattle.ieee754.specs.Closeness.{Close}
use Rattle.ieee754.specs.RoundingLaws.{RoundClose, WholeClose, RoundMonotone, RoundFrom}
use Rattle.ieee754.proofs.Rounding.{round_neg}
use Rattle.ieee754.proofs.Closeness.{close_self, close_cancel}
use Rattle.ieee754.proofs.Units.{units_of, neg_units, units_lt}
use Rattle.ieee754.proofs.Spacing.{on_grid}

-- ---- what `compare` says
abbrev pub Cmp : Ordering → ℕ → ℕ → Type 0
Cmp Ordering.lt a b = a < b
Cmp Ordering.eq a b = a ≡ b
Cmp Ordering.gt a b = b < a

pub cmp : (a b : ℕ) → Cmp (compare a b) a b
cmp a b = go (compare a b) (leb→le a b) (nleb→lt a b) (eqb→eq a b) (λ (e : a ≡ b). subst (λ (x : ℕ). T (eqb a x)) e (eqb_refl a))
  where
    go : (o : Ordering) → (T (is_le o) → a ≤ b) → (T (not (is_le o)) → b < a) → (T (compare_is_eq o) → a ≡ b) → (a ≡ b → T (compare_is_eq o)) → Cmp o a b
    go Ordering.lt h k e n = lt_of_le-ne (h tt) n
    go Ordering.eq h k e n = e tt
    go Ordering.gt h k e n = k tt

-- ---- to the nearest whole number: a / b goes by half of one at most
record Half (a b q : ℕ) : Type 0 where
  above : 2 * a ≤ 2 * (q * b) + b
  below : 2 * (q * b) ≤ 2 * a + b

tie : (q : ℕ) → q % 2 ≤ 1
tie q = omega arith

half_at : (q r b : ℕ) (o : Ordering) → Cmp o (r * 2) b → r < b → Half (q * b + r) b (nearest q o)
half_at q r b Ordering.lt c l = omega arith
half_at q r b Ordering.eq c l = omega (arith, mul-le-mul_right b (tie q))
half_at q r b Ordering.gt c l = omega arith

closest_half : (a b : ℕ) → 0 < b → Half a b (closest a b)
closest_half a b p =
    subst (λ (z : ℕ). Half z b (closest a b)) (div-add-mod' a b)
    (half_at (a / b) (a % b) b (compare (a % b * 2) b) (cmp (a % b * 2) b) (mod-lt a p))

-- ---- the numbers alone: n / c rounded to q * w, where w is 1 or at most 2 / u of that

without_slip : (u n c q w : ℕ) → u * w ≤ 2 * (q * w) → Half n (c * w) q → Close u n (q * w * c) 0
without_slip u n c q w l h = omega (arith, mul-le-mul_left u h.above, mul-le-mul_left u h.below, mul-le-mul_right c l)

by_one : (u n c q : ℕ) → Half n (c * 1) q → Close u n (q * 1 * c) c
by_one u n c q h = omega (arith, mul-le-mul_left u h.above, mul-le-mul_left u h.below)

close_at : (u n c q w : ℕ) → (w ≡ 1) ⊎ (u * w ≤ 2 * (q * w)) → Half n (c * w) q → Close u n (q * w * c) c
close_at u n c q w (inl e) h = subst (λ (z : ℕ). Close u n (q * z * c) c) (sym e) (by_one u n c q (subst (λ (z : ℕ). Half n (c * z) q) e h))
close_at u n c q w (inr l) h = let k = without_slip u n c q w l h in omega arith

-- n / c is the whole number m
at_whole : (m c q : ℕ) → 0 < c → Half (m * c) (c * 1) q → q ≡ m
at_whole m c q C h =
    let a : 2 * m ≤ 2 * q + 1 = le_of_mul-le-mul_right {m = 2 * m} {n = 2 * q + 1} (omega (arith, h.above)) C in
    let b : 2 * q ≤ 2 * m + 1 = le_of_mul-le-mul_right {m = 2 * q} {n = 2 * m + 1} (omega (arith, h.below)) C in
    omega arith

whole_at : (u m c q w : ℕ) → 0 < c → (w ≡ 1) ⊎ (u * w ≤ 2 * (q * w)) → Half (m * c) (c * w) q → Close u m (q * w) 0
whole_at u m c q w C (inl e) h =
    let s : q * w ≡ m = ap (λ (z : ℕ). q * z) e ∙ mul-one q ∙ at_whole m c q C (subst (λ (z : ℕ). Half (m * c) (c * z) q) e h) in
    subst (λ (z : ℕ). Close u m z 0) (sym s) (close_self u m)
whole_at u m c q w C (inr l) h = let k = without_slip u (m * c) c q w l h in close_cancel {a = m} {b = q * w} {e = 0} c C (omega arith)

-- ---- the unit of the result: one, or no more than the 2 ^ -(prec - 1)-th part of it

module _ (p n c : ℕ) (P : 0 < p) where
  kept_ge : 0 < drop p n c → 2 ^ (p - 1) ≤ kept p n c
  kept_ge h =
      let k = drop p n c in
      let w = n / c in
      let a : 2 ^ (p - 1) * 2 ^ k ≤ w = le_trans (le_of_eq (sym (pow-add 2 (p - 1) k))) (size_reaches w (p - 1 + k) (reaches (size w) k refl h)) in
      let b : 2 ^ (p - 1) ≤ n / (c * 2 ^ k) = subst (λ (x : ℕ). 2 ^ (p - 1) ≤ x) (div-div-eq-div-mul n c (2 ^ k)) ((le-div_iff_mul-le (pow_pos k)).1 a) in
      le_trans b (nearest-ge (n / (c * 2 ^ k)) (compare (n % (c * 2 ^ k) * 2) (c * 2 ^ k)))
    where
      reaches : (z k : ℕ) → k ≡ z - p → 0 < k → p - 1 + k < z
      reaches z k e h = omega arith

  twice : 2 ^ p ≡ 2 ^ (p - 1) + 2 ^ (p - 1)
  twice = let e : p ≡ suc (p - 1) = omega arith in ap (λ (x : ℕ). 2 ^ x) e ∙ two-pow-succ (p - 1)

  wide : (2 ^ drop p n c ≡ 1) ⊎ (2 ^ p * 2 ^ drop p n c ≤ 2 * (kept p n c * 2 ^ drop p n c))
  wide = go (drop p n c) (kept p n c) (eq-zero-or-pos (drop p n c)) kept_ge
    where
      go : (k q : ℕ) → (k ≡ 0) ⊎ (0 < k) → (0 < k → 2 ^ (p - 1) ≤ q) → (2 ^ k ≡ 1) ⊎ (2 ^ p * 2 ^ k ≤ 2 * (q * 2 ^ k))
      go k q (inl e) h = inl (ap (λ (x : ℕ). 2 ^ x) e)
      go k q (inr l) h = let g = h l in let d : 2 ^ p ≤ 2 * q = omega (arith, twice) in inr (omega (arith, mul-le-mul_right (2 ^ k) d))

-- ---- the sign is nothing to the size

finite_neg : (x : Float) → T (finite (neg x)) → T (finite x)
unfolding neg
finite_neg nan h = h
finite_neg (inf s) h = h
finite_neg (fin s m e) h = tt

clear_finite : (f : Format) (s : Bool) (a c : ℕ) → T (finite (round f s a c)) → T (finite (round f false a c))
clear_finite f false a c h = h
clear_finite f true a c h = finite_neg (round f false a c) (subst (λ (x : Float). T (finite x)) (sym (round_neg f false a c)) h)

clear_units : (f : Format) (s : Bool) (a c : ℕ) → units_in f (round f s a c) ≡ units_in f (round f false a c)
clear_units f false a c = refl
clear_units f true a c = ap (units_in f) (sym (round_neg f false a c)) ∙ neg_units f (round f false a c)

module _ (f : Format) (s : Bool) (a c : ℕ) (h : T (finite (round f s a c))) where
  value : HasValue (round f false a c) false (grid f a c) (2 ^ low f)
  value = round_val f a c (round_under f a c (clear_finite f s a c h))

  pub round_units : units_in f (round f s a c) ≡ grid f a c
  round_units = clear_units f s a c ∙ units_of f (round f false a c) false (grid f a c) value

digits_pos : (f : Format) → 0 < prec f
digits_pos f = two-le_pos (prec f) (two f)

-- ---- how far

pub round_close : RoundClose
round_close f s a c C h =
    let n = a * 2 ^ low f in
    let k = drop (prec f) n c in
    subst (λ (g : ℕ). Close (2 ^ prec f) n (g * c) c) (sym (round_units f s a c h))
    (close_at (2 ^ prec f) n c (kept (prec f) n c) (2 ^ k) (wide (prec f) n c (digits_pos f)) (closest_half n (c * 2 ^ k) (mul-pos C (pow_pos k))))

pub whole_close : WholeClose
whole_close f s n h =
    let c = 2 ^ low f in
    let k = drop (prec f) (n * c) c in
    subst (λ (g : ℕ). Close (2 ^ prec f) n g 0) (sym (round_units f s n c h))
    (whole_at (2 ^ prec f) n c (kept (prec f) (n * c) c) (2 ^ k) (pow_pos (low f)) (wide (prec f) (n * c) c (digits_pos f))
    (closest_half (n * c) (c * 2 ^ k) (mul-pos (pow_pos (low f)) (pow_pos k))))

-- ---- in which order

above_positive : (y : Float) (g c : ℕ) → HasValue y false g c → T (above y) → T (positive y)
above_positive nan g c h a = absurd h
above_positive (inf s) g c h a = absurd h
above_positive (fin true n d) g c h a = absurd a
above_positive (fin false n d) g c h a = a

values_mono : {p g c : ℕ} (x y : Float) → 0 < c → HasValue x false p c → HasValue y false g c → T (le x y) → p ≤ g
values_mono {p} {g} {c} x y C a b l = go (eq-zero-or-pos p)
  where
    go : (p ≡ 0) ⊎ (0 < p) → p ≤ g
    go (inl z) = le_trans (le_of_eq z) zero-le
    go (inr some) =
        let s : T (positive x) = positive_of_value x p c a some in
        le_of_mul-le-mul_right (values_of_le x y p c g c s (above_positive y g c b (above_of_le x y s l)) a b l) C

pub round_monotone : RoundMonotone
round_monotone f s t a b c d B D h i j =
    let order : grid f a b ≤ grid f c d =
    values_mono (round f false a b) (round f false c d) (pow_pos (low f)) (value f s a b i) (value f t c d j) (round_mono f a b c d B D h) in
    le_trans (le_of_eq (round_units f s a b i)) (le_trans order (le_of_eq (sym (round_units f t c d j))))

-- a whole number of units that the format holds is its own rounding
own : (f : Format) (x : Float) → T (fits f x) → HasValue (round f false (units_in f x) (2 ^ low f)) false (units_in f x) (2 ^ low f)
own f x F =
    let g = on_grid f x F in
    round_exact f false (units_in f x) (2 ^ low f) g.digits g.place (pow_pos (low f)) g.few
    (subst (λ (z : ℕ). z < 2 ^ (low f + suc (emax f))) g.is (units_lt f x F))
    (ap (λ (z : ℕ). z * 2 ^ low f) g.is)

pub round_from : RoundFrom
round_from f x s a c F C h i =
    let order : units_in f x ≤ grid f a c =
    values_mono (round f false (units_in f x) (2 ^ low f)) (round f false a c) (pow_pos (low f)) (own f x F) (value f s a c i)
    (round_mono f (units_in f x) (2 ^ low f) a c (pow_pos (low f)) C h) in
    le_trans order (le_of_eq (sym (round_units f s a c i)))
