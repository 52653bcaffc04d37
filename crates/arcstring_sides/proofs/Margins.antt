-- What the tests with a margin say of a side value: a zero margin asks for zero, and what has a square above the margin's does not graze. Assumes
-- nothing.
use mathlib.Core.Path.{◌≡◌, refl, sym, ap, subst, ◌∙◌}
use mathlib.Core.Logic.{◌⊎◌, inl, inr}
use mathlib.Core.Bool.{Bool, true, false, ◌||◌, cond}
use Prim.Native.Nat.{ℕ, zero, suc, ◌*◌}
use native.Mathlib.Nat.{zero-mul}
use native.Mathlib.Omega.{arith}
use lib.Dec.{T}
use lib.IntN.{ℤ}
use lib.Ieee.{Float, nan, inf, fin, binary64, mul, lt, eq, le, up, down}
use borrow.Author.Tests.{le-ltb}
use Rattle.ieee754.specs.Size.{abs}
use Rattle.ieee754.specs.Value.{zero_float, is_zero}
use Rattle.ieee754.proofs.Tests.{never}
use Rattle.ieee754.specs.OrderLaws.{number}
use Rattle.ieee754.proofs.ByValue.{zero-value}
use Rattle.ieee754.proofs.Comparisons.{le-value, eq-zero}
use Rattle.ieee754.proofs.Fractions.{not_above→le}
use Rattle.ieee754.proofs.Order.{le_left, le_right, lt→le, highest, le_trans, lt_or_le, lt_not_le, lt-le_trans, lt_trans}
use Rattle.ieee754.proofs.Products.{square_from_zero, square_mono}
use Rattle.arcstring_sides.specs.Sides.{grazes}

-- a test by its outcome
pub holds : {b : Bool} → b ≡ true → T b
holds e = subst T (sym e) tt

pub true_of : (b : Bool) → T b → b ≡ true
true_of true t = refl
true_of false t = absurd t

fails : (b : Bool) → (T b → ⊥) → b ≡ false
fails true h = absurd (h tt)
fails false h = refl

-- ---- a zero margin, of either sign, asks for zero; and a wider one takes in what a smaller one does

unsigned_not_below : (m : ℕ) (e : ℤ) → lt (fin false m e) zero_float ≡ false
unfolding lt
unsigned_not_below m e = le-ltb (m * up e * 1) (0 * down e) (omega (arith, zero-mul (down e)))

unsigned_at_most_zero : (m : ℕ) (e : ℤ) → le (fin false m e) zero_float ≡ is_zero (fin false m e)
unfolding le
unsigned_at_most_zero m e = ap (λ (b : Bool). b || eq (fin false m e) zero_float) (unsigned_not_below m e) ∙ eq-zero (fin false m e)

size_at_most_zero : (x : Float) → le (abs x) zero_float ≡ is_zero x
unfolding abs
size_at_most_zero nan = unfold le lt eq in refl
size_at_most_zero (inf s) = unfold le lt eq in refl
size_at_most_zero (fin s zero e) = unsigned_at_most_zero zero e
size_at_most_zero (fin s (suc m) e) = unsigned_at_most_zero (suc m) e

pub at_zero : (margin x : Float) → is_zero margin ≡ true → grazes margin x ≡ is_zero x
unfolding grazes
at_zero margin x h = le-value (abs x) (abs x) margin zero_float refl (zero-value margin (holds h)) ∙ size_at_most_zero x

pub wider : (m n x : Float) → le m n ≡ true → grazes m x ≡ true → grazes n x ≡ true
unfolding grazes
wider m n x h k = true_of (le (abs x) n) (le_trans (abs x) m n (holds k) (holds h))

-- what does not graze, at a margin from 0 on, is no zero
pub no_graze_no_zero : (margin x : Float) → le zero_float margin ≡ true → grazes margin x ≡ false → is_zero x ≡ false
no_graze_no_zero margin x h k = go (is_zero x) refl
  where
    go : (b : Bool) → is_zero x ≡ b → b ≡ false
    go true e = never (sym k ∙ wider zero_float margin x h (at_zero zero_float x refl ∙ e))
    go false e = refl

-- ---- a square above the margin's

-- where a size is at most the margin, it is at most the margin's size
at_most_size : (x margin : Float) → T (le (abs x) margin) → T (le (abs x) (abs margin))
at_most_size x nan h = absurd (le_right (abs x) nan h)
at_most_size x (inf s) h = unfold abs in highest (abs x) (le_left (abs x) (inf s) h)
at_most_size x (fin false n d) h = unfold abs in h
at_most_size x (fin true n d) h =
    unfold abs in le_trans (abs x) (fin true n d) (fin false n d) h (not_above→le (fin true n d) (fin false n d) tt tt (record { bound = omega arith }))

-- a float whose size is a number is one
size_number : (x : Float) → T (number (abs x)) → T (number x)
unfolding abs
size_number nan h = h
size_number (inf s) h = tt
size_number (fin s m e) h = tt

module _ (margin : Float) where
  abbrev squared : Float → Float
  squared x = mul binary64 x x

  -- a square that is a number is above the margin's
  abbrev Clear : Float → Type 0
  Clear q = T (number q) → T (lt (squared margin) q)

  pub clear_not_grazing : (x : Float) → Clear (squared x) → grazes margin x ≡ false
  unfolding grazes
  clear_not_grazing x clear = fails (le (abs x) margin) go
    where
      go : T (le (abs x) margin) → ⊥
      go h =
          let n = size_number x (le_left (abs x) margin h) in
          let q = le_right zero_float (squared x) (square_from_zero binary64 x n) in
          lt_not_le (squared margin) (squared x) (clear q) (square_mono binary64 x margin (at_most_size x margin h))

  -- the smaller of two squares is above it: so are both
  pub both_clear : (x r : Float) → lt (squared margin) (cond (lt x r) x r) ≡ true → Clear x × (lt (squared margin) r ≡ true)
  both_clear x r h = go (lt x r) refl h
    where
      go : (b : Bool) → lt x r ≡ b → lt (squared margin) (cond b x r) ≡ true → Clear x × (lt (squared margin) r ≡ true)
      go true e h = (λ n. holds h, true_of (lt (squared margin) r) (lt_trans (squared margin) x r (holds h) (holds e)))
      go false e h = (λ n. above n (lt_or_le x r n (le_right (squared margin) r (lt→le (squared margin) r (holds h)))), h)
        where
          above : T (number x) → T (lt x r) ⊎ T (le r x) → T (lt (squared margin) x)
          above n (inl k) = absurd (subst T e k)
          above n (inr k) = lt-le_trans (squared margin) r x (holds h) k
