-- Bounds on sizes: a fraction of at most 2 ^ k rounds to a float of at most 2 ^ k, so from bounds on the operands come bounds on a product, a sum and a
-- difference,
-- as long as the format reaches that far. A float under a bound is finite. For every format. Assumes nothing.
use mathlib.Core.Path.{◌≡◌, refl, sym, ap, ◌∙◌, subst}
use Prim.Native.Nat.{ℕ, zero, suc, ◌+◌, ◌-◌, ◌*◌, ◌^◌, ◌≤◌, ◌<◌, max}
use native.Mathlib.Nat.{le_trans, le_of_eq, le_of_lt, le-max_left, le-max_right, zero-lt-suc, mul_comm, mul_assoc, mul-one, one-mul, mul_right_comm}
use native.Mathlib.Nat.{mul-mul-mul_comm, mul-le-mul, mul-le-mul_right, le_of_mul-le-mul_right, mul-pos, add-mul, add-le-add, two-pow-succ}
use native.Mathlib.Omega.{arith}
use mathlib.Core.Bool.{Bool, true, false, ◌&&◌, ◌||◌, cond, beq, true≢false}
use lib.IntN.{ℤ, pos}
use lib.Dec.{T, ltb, eqb, ltb→lt, eqb→eq}
use lib.Pow.{pow-add, pow_mono, pow-lt}
use lib.Ieee.{Float, nan, inf, fin, Format, prec, emax, low, up, down, unlike, odd, units, round, neg, sum, add, sub, mul, le}
use lib.Ieee.Fits.{two, two-le_pos, down_pos, round_is}
use lib.Ieee.Exact.{HasValue, round_exact}
use lib.Ieee.Order.{round_mono, le_of_values}
use lib.Ieee.Scale.{finite}
use borrow.Author.Tests.{lt-ltb, ltb-false, eq-eqb}
use Rattle.ieee754.specs.Size.{abs}
use Rattle.ieee754.specs.Bound.{AtMost}
use Rattle.ieee754.specs.BoundLaws.{MulAtMost, AddAtMostMax, SubAtMostMax, AddAtMost, SubAtMost, BetweenAtMost, AtMostBetween}
use Rattle.ieee754.proofs.Rounding.{round_neg}

-- ---- the bound itself
pub at_most_finite : (k : ℕ) (x : Float) → AtMost k x → T (finite x)
at_most_finite k nan h = h
at_most_finite k (inf s) h = h
at_most_finite k (fin s m e) h = tt

pub at_most_mono : (a b : ℕ) (x : Float) → a ≤ b → AtMost a x → AtMost b x
at_most_mono a b nan l h = h
at_most_mono a b (inf s) l h = h
at_most_mono a b (fin s m e) l h = le_trans h (mul-le-mul_right (down e) (pow_mono l))

pub neg_at_most : (k : ℕ) (x : Float) → AtMost k x → AtMost k (neg x)
unfolding neg
neg_at_most k nan h = h
neg_at_most k (inf s) h = h
neg_at_most k (fin s m e) h = h

pub abs_at_most : (k : ℕ) (x : Float) → AtMost k x → AtMost k (abs x)
unfolding abs
abs_at_most k nan h = h
abs_at_most k (inf s) h = h
abs_at_most k (fin s m e) h = h

-- ---- the bound is the comparison with 2 ^ k
lt_or_eq : (a b : ℕ) (p q : Bool) → (T p → a < b) → (T q → a ≡ b) → T (p || (q && true)) → a ≤ b
lt_or_eq a b true q h k t = le_of_lt (h tt)
lt_or_eq a b false true h k t = le_of_eq (k tt)
lt_or_eq a b false false h k t = absurd t

-- m / c ≤ n / d = w / 1
through : (m c n d w : ℕ) → 0 < d → m * d ≤ n * c → n * 1 ≡ w * d → m ≤ w * c
through m c n d w D h e =
    le_of_mul-le-mul_right (le_trans h (le_of_eq (ap (λ (z : ℕ). z * c) (sym (mul-one n) ∙ e) ∙ mul_right_comm w d c))) D

-- for a y that is 2 ^ k: a float that is no larger than y, and not negative, is at most 2 ^ k
under_power : (k m : ℕ) (e : ℤ) (y : Float) → HasValue y false (2 ^ k) 1 → T (le (fin false m e) y) → AtMost k (fin false m e)
unfolding le
under_power k m e nan v h = absurd v
under_power k m e (inf t) v h = absurd v
under_power k m e (fin true n d) v h = absurd (true≢false v.0)
under_power k m e (fin false n d) v h =
    let a = m * up e * down d in
    let b = n * up d * down e in
    through (m * up e) (down e) (n * up d) (down d) (2 ^ k) (down_pos d) (lt_or_eq a b (ltb a b) (eqb a b) (ltb→lt a b) (eqb→eq a b) h) v.1

power-value : (k : ℕ) → HasValue (fin false 1 (pos k)) false (2 ^ k) 1
power-value k = (refl, ap (λ (z : ℕ). z * 1) (one-mul (2 ^ k)))

pub at_most_le : (k : ℕ) (x : Float) → AtMost k x → T (le (abs x) (fin false 1 (pos k)))
unfolding abs
at_most_le k nan h = absurd h
at_most_le k (inf s) h = absurd h
at_most_le k (fin s m e) h =
    le_of_values (fin false m e) (fin false 1 (pos k)) (m * up e) (down e) (2 ^ k) 1 (down_pos e) (zero-lt-suc 0) (refl, refl) (power-value k)
    (le_trans (le_of_eq (mul-one (m * up e))) h)

pub le_at_most : (k : ℕ) (x : Float) → T (le (abs x) (fin false 1 (pos k))) → AtMost k x
unfolding abs
le_at_most k nan h = unfold le in h
le_at_most k (inf s) h = unfold le in h
le_at_most k (fin s m e) h = under_power k m e (fin false 1 (pos k)) (power-value k) h

-- a float from -1 to 1
pub between_at_most : BetweenAtMost
unfolding le
between_at_most nan g h = h
between_at_most (inf true) g h = g
between_at_most (inf false) g h = h
between_at_most (fin false m e) g h = under_power 0 m e (fin false 1 (pos 0)) (power-value 0) h
between_at_most (fin true m e) g h =
    let a = 1 * up (pos 0) * down e in
    let b = m * up e * down (pos 0) in
    le_trans (le_of_eq (sym (mul-one (m * up e)))) (lt_or_eq b a (ltb b a) (eqb a b) (ltb→lt b a) (λ (t : T (eqb a b)). sym (eqb→eq a b t)) g)

above_zero : (n : ℕ) (q : Bool) → 0 < n → T (ltb 0 n || q)
above_zero n q h = rw (lt-ltb 0 n h) tt

no_more : (a b : ℕ) (p : Bool) → ltb b a ≡ p → b ≤ a → T (p || (eqb a b && true))
no_more a b true e h = tt
no_more a b false e h = rw (eq-eqb a b (omega (arith, ltb-false b a e))) tt

-- and back
pub at_most_between : AtMostBetween
unfolding le abs
at_most_between nan h = absurd h
at_most_between (inf s) h = absurd h
at_most_between (fin false m e) h =
    (above_zero (1 * up (pos 0) * down e + m * up e * down (pos 0)) _ (omega (arith, down_pos e)), at_most_le 0 (fin false m e) h)
at_most_between (fin true m e) h =
    let a = 1 * up (pos 0) * down e in
    let b = m * up e * down (pos 0) in
    (no_more a b (ltb b a) refl (le_trans (le_of_eq (mul-one (m * up e))) h), above_zero (b + a) _ (omega (arith, down_pos e)))

-- ---- rounding
-- finite or infinite, and of the sign s
abbrev Signed : Bool → Float → Type 0
Signed s nan = ⊥
Signed s (inf t) = t ≡ s
Signed s (fin t m e) = t ≡ s

odd_signed : (d : ℕ) (s : Bool) (q k l : ℕ) → Signed s (odd d s q k l)
unfolding odd
odd_signed d s zero k l = refl
odd_signed d s (suc q) k l = refl

units_signed : (f : Format) (s : Bool) (q k : ℕ) → Signed s (units f s q k)
unfolding units
units_signed f s q k = go (ltb (q * 2 ^ k) (2 ^ (low f + suc (emax f))))
  where
    go : (b : Bool) → Signed s (cond b (odd (suc (prec f)) s q k (low f)) (inf s))
    go true = odd_signed (suc (prec f)) s q k (low f)
    go false = refl

round_signed : (f : Format) (s : Bool) (a c : ℕ) → Signed s (round f s a c)
round_signed f s a c = subst (λ (x : Float). Signed s x) (sym (round_is f s a c)) (units_signed f s _ _)

within : (k : ℕ) (x y : Float) → Signed false x → HasValue y false (2 ^ k) 1 → T (le x y) → AtMost k x
within k nan y g v h = g
within k (inf true) y g v h = absurd (true≢false g)
within k (inf false) nan g v h = absurd v
within k (inf false) (inf t) g v h = absurd v
within k (inf false) (fin t n d) g v h = unfold le in h
within k (fin true m e) y g v h = absurd (true≢false g)
within k (fin false m e) y g v h = under_power k m e y v h

room : (k l e : ℕ) → k ≤ e → k + l < l + suc e
room k l e h = omega arith

-- the format holds 2 ^ k
round_power : (f : Format) (k : ℕ) → k ≤ emax f → HasValue (round f false (2 ^ k) 1) false (2 ^ k) 1
round_power f k h =
    let w = k + low f in
    round_exact f false (2 ^ k) 1 1 w (zero-lt-suc 0) (pow-lt (two-le_pos (prec f) (two f)))
    (subst (λ (z : ℕ). z < 2 ^ (low f + suc (emax f))) (sym (one-mul (2 ^ w))) (pow-lt (room k (low f) (emax f) h)))
    (sym (mul-one (1 * 2 ^ w) ∙ one-mul (2 ^ w) ∙ pow-add 2 k (low f)))

unsigned_at_most : (f : Format) (num den k : ℕ) → 0 < den → k ≤ emax f → num ≤ 2 ^ k * den → AtMost k (round f false num den)
unsigned_at_most f num den k D r h =
    within k (round f false num den) (round f false (2 ^ k) 1) (round_signed f false num den) (round_power f k r)
    (round_mono f num den (2 ^ k) 1 D (zero-lt-suc 0) (le_trans (le_of_eq (mul-one num)) h))

pub round_at_most : (f : Format) (s : Bool) (num den k : ℕ) → 0 < den → k ≤ emax f → num ≤ 2 ^ k * den → AtMost k (round f s num den)
round_at_most f false num den k D r h = unsigned_at_most f num den k D r h
round_at_most f true num den k D r h =
    subst (λ (x : Float). AtMost k x) (round_neg f false num den) (neg_at_most k (round f false num den) (unsigned_at_most f num den k D r h))

-- ---- the product
pub mul_at_most : MulAtMost
unfolding mul
mul_at_most f a b nan y r h k = absurd h
mul_at_most f a b (inf s) y r h k = absurd h
mul_at_most f a b (fin s m e) nan r h k = absurd k
mul_at_most f a b (fin s m e) (inf t) r h k = absurd k
mul_at_most f a b (fin s m e) (fin t n d) r h k =
    round_at_most f (unlike s t) (m * up e * (n * up d)) (down e * down d) (a + b) (mul-pos (down_pos e) (down_pos d)) r
    (le_trans (mul-le-mul h k) (le_of_eq (mul-mul-mul_comm (2 ^ a) (down e) (2 ^ b) (down d) ∙ ap (λ (z : ℕ). z * (down e * down d)) (sym (pow-add 2 a b)))))

-- ---- the sum and the difference
cond_at_most : (k : ℕ) (b : Bool) (x y : Float) → AtMost k x → AtMost k y → AtMost k (cond b x y)
cond_at_most k true x y h g = h
cond_at_most k false x y h g = g

sum_at_most : (f : Format) (k : ℕ) (s : Bool) (a : ℕ) (t : Bool) (b c : ℕ) → 0 < c → suc k ≤ emax f → a ≤ 2 ^ k * c → b ≤ 2 ^ k * c
    → AtMost (suc k) (sum f s a t b c)
unfolding sum
sum_at_most f k s a t b c C r h g =
    let twice : 2 ^ k * c + 2 ^ k * c ≡ 2 ^ suc k * c = sym (add-mul (2 ^ k) (2 ^ k) c) ∙ ap (λ (z : ℕ). z * c) (sym (two-pow-succ k)) in
    let p : a + b ≤ 2 ^ suc k * c = le_trans (add-le-add h g) (le_of_eq twice) in
    let q : b - a ≤ 2 ^ suc k * c = omega arith in
    let u : a - b ≤ 2 ^ suc k * c = omega arith in
    cond_at_most (suc k) (beq s t) (round f s (a + b) c) (cond (ltb a b) (round f t (b - a) c) (round f (s && ltb b a) (a - b) c))
    (round_at_most f s (a + b) c (suc k) C r p)
    (cond_at_most (suc k) (ltb a b) (round f t (b - a) c) (round f (s && ltb b a) (a - b) c)
    (round_at_most f t (b - a) c (suc k) C r q)
    (round_at_most f (s && ltb b a) (a - b) c (suc k) C r u))

both_at_most : (f : Format) (k : ℕ) (x y : Float) → suc k ≤ emax f → AtMost k x → AtMost k y → AtMost (suc k) (add f x y)
unfolding add
both_at_most f k nan y r h g = absurd h
both_at_most f k (inf s) y r h g = absurd h
both_at_most f k (fin s m e) nan r h g = absurd g
both_at_most f k (fin s m e) (inf t) r h g = absurd g
both_at_most f k (fin s m e) (fin t n d) r h g =
    sum_at_most f k s (m * up e * down d) t (n * up d * down e) (down e * down d) (mul-pos (down_pos e) (down_pos d)) r
    (le_trans (mul-le-mul_right (down d) h) (le_of_eq (mul_assoc (2 ^ k) (down e) (down d))))
    (le_trans (mul-le-mul_right (down e) g) (le_of_eq (mul_assoc (2 ^ k) (down d) (down e) ∙ ap (λ (z : ℕ). 2 ^ k * z) (mul_comm (down d) (down e)))))

pub add_at_most : AddAtMost
add_at_most f a b k x y p q r h g = both_at_most f k x y r (at_most_mono a k x p h) (at_most_mono b k y q g)

pub add_at_most_max : AddAtMostMax
add_at_most_max f a b x y r h g = add_at_most f a b (max a b) x y (le-max_left a b) (le-max_right a b) r h g

pub sub_at_most : SubAtMost
unfolding sub
sub_at_most f a b k x y p q r h g = add_at_most f a b k x (neg y) p q r h (neg_at_most b y g)

pub sub_at_most_max : SubAtMostMax
sub_at_most_max f a b x y r h g = sub_at_most f a b (max a b) x y (le-max_left a b) (le-max_right a b) r h g
