-- The comparisons are an order on the floats that are numbers, the infinities included: `le` is transitive and total, and `lt` is its strict part. With a NaN
-- on either side no comparison holds. Stated in `specs/OrderLaws.antt`. Assumes nothing.
use mathlib.Core.Path.{◌≡◌, refl}
use mathlib.Core.Logic.{◌⊎◌, inl, inr}
use mathlib.Core.Bool.{Bool, true, false, not}
use Prim.Native.Nat.{◌+◌, ◌*◌, ◌≤◌}
use native.Mathlib.Nat.{lt_of_not-le}
use native.Mathlib.Decide.{dec_le}
use native.Mathlib.Omega.{arith}
use lib.Dec.{T}
use lib.Ieee.{Float, nan, inf, fin, lt, eq, le}
use lib.Ieee.Scale.{finite}
use lib.Ieee.Positive.{den, den_pos}
use Rattle.ieee754.specs.OrderLaws.{number, LeTrans, LtOrLe, LtNotLe, LeNotLt, LtLeTrans, LtTrans}
use Rattle.ieee754.proofs.Fractions.{or_l, plus, less, not_above_trans, lt→under, under→lt, le→not_above, not_above→le}

-- ---- what a comparison says of its sides
pub le_left : (x y : Float) → T (le x y) → T (number x)
unfolding le
le_left nan y h = h
le_left (inf s) y h = tt
le_left (fin s m e) y h = tt

pub le_right : (x y : Float) → T (le x y) → T (number y)
unfolding le
le_right nan nan h = h
le_right (inf s) nan h = h
le_right (fin s m e) nan h = h
le_right x (inf t) h = tt
le_right x (fin t n d) h = tt

pub lt→le : (x y : Float) → T (lt x y) → T (le x y)
unfolding le
lt→le x y h = or_l (lt x y) (eq x y) h

-- ---- the infinities
lowest : (x : Float) → T (number x) → T (le (inf true) x)
unfolding le
lowest nan n = n
lowest (inf true) n = tt
lowest (inf false) n = tt
lowest (fin s m e) n = tt

pub highest : (x : Float) → T (number x) → T (le x (inf false))
unfolding le
highest nan n = n
highest (inf true) n = tt
highest (inf false) n = tt
highest (fin s m e) n = tt

-- ---- the order
finite_trans : (x y z : Float) → T (finite x) → T (finite y) → T (finite z) → T (le x y) → T (le y z) → T (le x z)
finite_trans x y z f g i h k = not_above→le x z f i (not_above_trans (den_pos y) (le→not_above x y f g h) (le→not_above y z g i k))

pub le_trans : LeTrans
le_trans nan y z h k = absurd (le_left nan y h)
le_trans (inf true) y z h k = lowest z (le_right y z k)
le_trans (inf false) nan z h k = absurd (le_right (inf false) nan h)
le_trans (inf false) (inf true) z h k = unfold le in absurd h
le_trans (inf false) (inf false) z h k = k
le_trans (inf false) (fin t n d) z h k = unfold le in absurd h
le_trans (fin s m e) nan z h k = absurd (le_right (fin s m e) nan h)
le_trans (fin s m e) (inf true) z h k = unfold le in absurd h
le_trans (fin s m e) (inf false) nan h k = absurd (le_right (inf false) nan k)
le_trans (fin s m e) (inf false) (inf true) h k = unfold le in absurd k
le_trans (fin s m e) (inf false) (inf false) h k = h
le_trans (fin s m e) (inf false) (fin u o c) h k = unfold le in absurd k
le_trans (fin s m e) (fin t n d) nan h k = absurd (le_right (fin t n d) nan k)
le_trans (fin s m e) (fin t n d) (inf true) h k = unfold le in absurd k
le_trans (fin s m e) (fin t n d) (inf false) h k = highest (fin s m e) tt
le_trans (fin s m e) (fin t n d) (fin u o c) h k = finite_trans (fin s m e) (fin t n d) (fin u o c) tt tt tt h k

finite_lt_or_le : (x y : Float) → T (finite x) → T (finite y) → T (lt x y) ⊎ T (le y x)
finite_lt_or_le x y f g = go (dec_le (plus y * den x + less x * den y) (plus x * den y + less y * den x))
  where
    go : Dec (plus y * den x + less x * den y ≤ plus x * den y + less y * den x) → T (lt x y) ⊎ T (le y x)
    go (yes h) = inr (not_above→le y x g f (record { bound = h }))
    go (no h) = inl (under→lt x y f g (record { bound = lt_of_not-le h }))

pub lt_or_le : LtOrLe
lt_or_le nan y p q = absurd p
lt_or_le (inf false) y p q = inr (highest y q)
lt_or_le (inf true) nan p q = absurd q
lt_or_le (inf true) (inf true) p q = inr (lowest (inf true) tt)
lt_or_le (inf true) (inf false) p q = unfold lt in inl tt
lt_or_le (inf true) (fin t n d) p q = unfold lt in inl tt
lt_or_le (fin s m e) nan p q = absurd q
lt_or_le (fin s m e) (inf true) p q = inr (lowest (fin s m e) tt)
lt_or_le (fin s m e) (inf false) p q = unfold lt in inl tt
lt_or_le (fin s m e) (fin t n d) p q = finite_lt_or_le (fin s m e) (fin t n d) tt tt

finite_lt-not-le : (x y : Float) → T (finite x) → T (finite y) → T (lt x y) → T (le y x) → ⊥
finite_lt-not-le x y f g h k = let i = lt→under x y f g h in let j = le→not_above y x g f k in omega (arith, i.bound, j.bound)

pub lt_not_le : LtNotLe
lt_not_le nan y h k = unfold lt in h
lt_not_le (inf true) nan h k = unfold lt in h
lt_not_le (inf true) (inf true) h k = unfold lt in h
lt_not_le (inf true) (inf false) h k = unfold le in k
lt_not_le (inf true) (fin t n d) h k = unfold le in k
lt_not_le (inf false) nan h k = unfold lt in h
lt_not_le (inf false) (inf t) h k = unfold lt in h
lt_not_le (inf false) (fin t n d) h k = unfold lt in h
lt_not_le (fin s m e) nan h k = unfold lt in h
lt_not_le (fin s m e) (inf true) h k = unfold lt in h
lt_not_le (fin s m e) (inf false) h k = unfold le in k
lt_not_le (fin s m e) (fin t n d) h k = finite_lt-not-le (fin s m e) (fin t n d) tt tt h k

-- ---- the rest follows from these three

lt_of_not_ge : (x y : Float) → T (number x) → T (number y) → (T (le y x) → ⊥) → T (lt x y)
lt_of_not_ge x y p q n = elim (lt_or_le x y p q) [ inl h ↦ h | inr h ↦ absurd (n h) ]

pub le_not_lt : LeNotLt
le_not_lt x y p q = go (lt x y) (le y x) (lt_or_le x y p q) (lt_not_le x y)
  where
    go : (a b : Bool) → T a ⊎ T b → (T a → T b → ⊥) → b ≡ not a
    go true true k h = absurd (h tt tt)
    go true false k h = refl
    go false true k h = refl
    go false false (inl t) h = absurd t
    go false false (inr t) h = absurd t

pub lt-le_trans : LtLeTrans
lt-le_trans x y z h k = lt_of_not_ge x z (le_left x y (lt→le x y h)) (le_right y z k) (λ (g : T (le z x)). lt_not_le x y h (le_trans y z x k g))

pub lt_trans : LtTrans
lt_trans x y z h k = lt-le_trans x y z h (lt→le y z k)
