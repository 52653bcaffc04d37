-- A finite float as a fraction with a sign, (plus - less) / den, where one of `plus` and `less` is 0: so the comparisons are bounds between sums of products,
-- which need no cases by sign. Assumes nothing.
use mathlib.Core.Path.{◌≡◌}
use mathlib.Core.Logic.{◌⊎◌, inl, inr}
use mathlib.Core.Bool.{Bool, true, false, ◌||◌}
use Prim.Native.Nat.{ℕ, ◌+◌, ◌*◌, ◌≤◌, ◌<◌}
use native.Mathlib.Nat.{mul-le-mul_right, le_of_mul-le-mul_right, eq-or-lt_of_le}
use native.Mathlib.Omega.{arith}
use lib.Dec.{T, eqb, ltb→lt, lt→ltb, eqb→eq}
use lib.Ieee.{Float, nan, inf, fin, up, down, lt, eq, le}
use lib.Ieee.Fits.{eq→eqb, and_i, and_l, and_r}
use lib.Ieee.Scale.{finite}
use lib.Ieee.Positive.{den}

abbrev pub plus : Float → ℕ
plus nan = 0
plus (inf s) = 0
plus (fin true m e) = 0
plus (fin false m e) = m * up e

abbrev pub less : Float → ℕ
less nan = 0
less (inf s) = 0
less (fin true m e) = m * up e
less (fin false m e) = 0

-- p / c - n / c at most, below and equal to p' / c' - n' / c'
pub record NotAbove (p n c p' n' c' : ℕ) : Type 0 where
  pub bound : p * c' + n' * c ≤ p' * c + n * c'

pub record Under (p n c p' n' c' : ℕ) : Type 0 where
  pub bound : p * c' + n' * c < p' * c + n * c'

pub record Same (p n c p' n' c' : ℕ) : Type 0 where
  pub bound : p * c' + n' * c ≡ p' * c + n * c'

-- ---- between fractions
pub not_above_trans : {p n c p' n' c' p'' n'' c'' : ℕ} → 0 < c' → NotAbove p n c p' n' c' → NotAbove p' n' c' p'' n'' c'' → NotAbove p n c p'' n'' c''
not_above_trans {p} {n} {c} {p'} {n'} {c'} {p''} {n''} {c''} C h k =
    record {
      bound = le_of_mul-le-mul_right {m = p * c'' + n'' * c} {n = p'' * c + n * c''}
          (omega (arith, mul-le-mul_right c'' h.bound, mul-le-mul_right c k.bound)) C;
    }

-- ---- the tests, by signs
pub or_split : (a b : Bool) → T (a || b) → T a ⊎ T b
or_split true b t = inl tt
or_split false b t = inr t

pub or_l : (a b : Bool) → T a → T (a || b)
or_l true b t = tt
or_l false b t = absurd t

pub or_r : (a b : Bool) → T b → T (a || b)
or_r true b t = tt
or_r false b t = t

pub lt→under : (x y : Float) → T (finite x) → T (finite y) → T (lt x y) → Under (plus x) (less x) (den x) (plus y) (less y) (den y)
unfolding lt
lt→under nan y f g h = absurd f
lt→under (inf s) y f g h = absurd f
lt→under (fin s m e) nan f g h = absurd g
lt→under (fin s m e) (inf t) f g h = absurd g
lt→under (fin false m e) (fin false n d) f g h = omega (arith, ltb→lt (m * up e * down d) (n * up d * down e) h)
lt→under (fin false m e) (fin true n d) f g h = absurd h
lt→under (fin true m e) (fin false n d) f g h = omega (arith, ltb→lt 0 (m * up e * down d + n * up d * down e) h)
lt→under (fin true m e) (fin true n d) f g h = omega (arith, ltb→lt (n * up d * down e) (m * up e * down d) h)

pub under→lt : (x y : Float) → T (finite x) → T (finite y) → Under (plus x) (less x) (den x) (plus y) (less y) (den y) → T (lt x y)
unfolding lt
under→lt nan y f g h = absurd f
under→lt (inf s) y f g h = absurd f
under→lt (fin s m e) nan f g h = absurd g
under→lt (fin s m e) (inf t) f g h = absurd g
under→lt (fin false m e) (fin false n d) f g h = lt→ltb (m * up e * down d) (n * up d * down e) (omega arith)
under→lt (fin false m e) (fin true n d) f g h = omega arith
under→lt (fin true m e) (fin false n d) f g h = lt→ltb 0 (m * up e * down d + n * up d * down e) (omega arith)
under→lt (fin true m e) (fin true n d) f g h = lt→ltb (n * up d * down e) (m * up e * down d) (omega arith)

pub eq→same : (x y : Float) → T (finite x) → T (finite y) → T (eq x y) → Same (plus x) (less x) (den x) (plus y) (less y) (den y)
unfolding eq
eq→same nan y f g h = absurd f
eq→same (inf s) y f g h = absurd f
eq→same (fin s m e) nan f g h = absurd g
eq→same (fin s m e) (inf t) f g h = absurd g
eq→same (fin false m e) (fin false n d) f g h =
    let a = m * up e * down d in
    let b = n * up d * down e in
    omega (arith, eqb→eq a b (and_l (eqb a b) true h))
eq→same (fin false m e) (fin true n d) f g h =
    let a = m * up e * down d in
    let b = n * up d * down e in
    omega (arith, eqb→eq a b (and_l (eqb a b) (eqb a 0) h), eqb→eq a 0 (and_r (eqb a b) (eqb a 0) h))
eq→same (fin true m e) (fin false n d) f g h =
    let a = m * up e * down d in
    let b = n * up d * down e in
    omega (arith, eqb→eq a b (and_l (eqb a b) (eqb a 0) h), eqb→eq a 0 (and_r (eqb a b) (eqb a 0) h))
eq→same (fin true m e) (fin true n d) f g h =
    let a = m * up e * down d in
    let b = n * up d * down e in
    omega (arith, eqb→eq a b (and_l (eqb a b) true h))

pub same→eq : (x y : Float) → T (finite x) → T (finite y) → Same (plus x) (less x) (den x) (plus y) (less y) (den y) → T (eq x y)
unfolding eq
same→eq nan y f g h = absurd f
same→eq (inf s) y f g h = absurd f
same→eq (fin s m e) nan f g h = absurd g
same→eq (fin s m e) (inf t) f g h = absurd g
same→eq (fin false m e) (fin false n d) f g h =
    let a = m * up e * down d in
    let b = n * up d * down e in
    let p : a ≡ b = omega arith in
    and_i (eqb a b) true (eq→eqb p) tt
same→eq (fin false m e) (fin true n d) f g h =
    let a = m * up e * down d in
    let b = n * up d * down e in
    let p : a ≡ b = omega arith in
    let q : a ≡ 0 = omega arith in
    and_i (eqb a b) (eqb a 0) (eq→eqb p) (eq→eqb q)
same→eq (fin true m e) (fin false n d) f g h =
    let a = m * up e * down d in
    let b = n * up d * down e in
    let p : a ≡ b = omega arith in
    let q : a ≡ 0 = omega arith in
    and_i (eqb a b) (eqb a 0) (eq→eqb p) (eq→eqb q)
same→eq (fin true m e) (fin true n d) f g h =
    let a = m * up e * down d in
    let b = n * up d * down e in
    let p : a ≡ b = omega arith in
    and_i (eqb a b) true (eq→eqb p) tt

pub le→not_above : (x y : Float) → T (finite x) → T (finite y) → T (le x y) → NotAbove (plus x) (less x) (den x) (plus y) (less y) (den y)
unfolding le
le→not_above x y f g h =
    elim (or_split (lt x y) (eq x y) h) [
      | inl u ↦ let k = lt→under x y f g u in omega (arith, k.bound)
      | inr u ↦ let k = eq→same x y f g u in omega (arith, k.bound)
    ]

pub not_above→le : (x y : Float) → T (finite x) → T (finite y) → NotAbove (plus x) (less x) (den x) (plus y) (less y) (den y) → T (le x y)
unfolding le
not_above→le x y f g h =
    elim (eq-or-lt_of_le h.bound) [
      | inl u ↦ or_r (lt x y) (eq x y) (same→eq x y f g (record { bound = u }))
      | inr u ↦ or_l (lt x y) (eq x y) (under→lt x y f g (record { bound = u }))
    ]
