-- What the tests with zero say of a float, the sign of a zero included, and what the same test says of all four side values. Assumes nothing.
use mathlib.Core.Path.{◌≡◌, refl, sym, ap, ◌∙◌}
use mathlib.Core.Bool.{Bool, true, false, not, ◌&&◌, ◌||◌}
use mathlib.Core.List.{List, [], ◌∷◌}
use Prim.Native.Nat.{ℕ, zero, suc, ◌+◌, ◌*◌}
use native.Mathlib.Omega.{arith}
use native.Mathlib.Nat.{zero-mul}
use lib.IntN.{ℤ}
use lib.ListN.{length, get_or}
use lib.Ieee.{Float, nan, inf, fin, binary64, of_bits, is_nan, lt, eq, up, down}
use Rattle.std.specs.Float.{is_sign_negative}
use borrow.Author.Tests.{eqb-true, lt-ltb, le-ltb}
use Rattle.ieee754.proofs.Tests.{never, and_first}
use Rattle.ieee754.proofs.Zeros.{scaled_pos, zero-level}
use Rattle.arcstring_sides.specs.Sides.{sign_negative, sign_positive, some_side, every_side}

abbrev zero64 : Float
zero64 = of_bits binary64 0

-- only a zero equals zero
zero_only : (s : Bool) (m : ℕ) (e : ℤ) → eq (fin s (suc m) e) zero64 ≡ true → ⊥
unfolding eq of_bits
zero_only s m e h = omega (arith, eqb-true (suc m * up e * 1) (0 * down e) (and_first _ _ h), zero-mul (down e), scaled_pos m e)

-- ---- the library's sign bit, of what is no NaN

pub library_negative : (x : Float) → is_sign_negative x ≡ sign_negative x
unfolding is_sign_negative sign_negative
library_negative nan = refl
library_negative (inf s) = refl
library_negative (fin s m e) = refl

pub library_positive : (x : Float) → is_nan x ≡ false → not (is_sign_negative x) ≡ sign_positive x
unfolding is_nan is_sign_negative sign_positive
library_positive nan h = never (sym h)
library_positive (inf s) h = refl
library_positive (fin s m e) h = refl

-- and a NaN has neither
pub nan_negative : (x : Float) (b : Bool) → b ≡ is_nan x → b ≡ true → not b ≡ sign_negative x
unfolding is_nan sign_negative
nan_negative nan b e h = ap not h
nan_negative (inf s) b e h = never (sym e ∙ h)
nan_negative (fin s m k) b e h = never (sym e ∙ h)

pub nan_positive : (x : Float) (b : Bool) → b ≡ is_nan x → b ≡ true → not b ≡ sign_positive x
unfolding is_nan sign_positive
nan_positive nan b e h = ap not h
nan_positive (inf s) b e h = never (sym e ∙ h)
nan_positive (fin s m k) b e h = never (sym e ∙ h)

-- of what is no zero, the comparison says the sign
pub negative_of_other : (x : Float) → eq x zero64 ≡ false → lt x zero64 ≡ sign_negative x
unfolding lt eq of_bits sign_negative
negative_of_other nan h = refl
negative_of_other (inf s) h = refl
negative_of_other (fin true zero e) h = never (sym h ∙ zero-level true e)
negative_of_other (fin true (suc m) e) h = lt-ltb 0 (suc m * up e * 1 + 0 * down e) (omega (arith, zero-mul (down e), scaled_pos m e))
negative_of_other (fin false m e) h = le-ltb (m * up e * 1) (0 * down e) (omega (arith, zero-mul (down e)))

pub positive_of_other : (x : Float) → eq x zero64 ≡ false → lt zero64 x ≡ sign_positive x
unfolding lt eq of_bits sign_positive
positive_of_other nan h = refl
positive_of_other (inf s) h = refl
positive_of_other (fin true m e) h = refl
positive_of_other (fin false zero e) h = never (sym h ∙ zero-level false e)
positive_of_other (fin false (suc m) e) h = lt-ltb (0 * down e) (suc m * up e * 1) (omega (arith, zero-mul (down e), scaled_pos m e))

-- what is above zero or below it is no zero
no_zero : (s : Bool) (m : ℕ) (e : ℤ) → eq (fin s (suc m) e) zero64 ≡ false
no_zero s m e = go (eq (fin s (suc m) e) zero64) refl
  where
    go : (b : Bool) → eq (fin s (suc m) e) zero64 ≡ b → b ≡ false
    go true h = absurd (zero_only s m e h)
    go false h = refl

pub above_is_no_zero : (x : Float) → lt zero64 x ≡ true → eq x zero64 ≡ false
unfolding lt eq of_bits
above_is_no_zero nan h = never h
above_is_no_zero (inf s) h = refl
above_is_no_zero (fin true zero e) h = never h
above_is_no_zero (fin false zero e) h = never (sym (le-ltb (0 * down e) (0 * up e * 1) (omega (arith, zero-mul (up e)))) ∙ h)
above_is_no_zero (fin s (suc m) e) h = no_zero s m e

pub below_is_no_zero : (x : Float) → lt x zero64 ≡ true → eq x zero64 ≡ false
unfolding lt eq of_bits
below_is_no_zero nan h = never h
below_is_no_zero (inf s) h = refl
below_is_no_zero (fin true zero e) h = never (sym (le-ltb 0 (0 * up e * 1 + 0 * down e) (omega (arith, zero-mul (up e), zero-mul (down e)))) ∙ h)
below_is_no_zero (fin false zero e) h = never (sym (le-ltb (0 * up e * 1) (0 * down e) (omega (arith, zero-mul (up e)))) ∙ h)
below_is_no_zero (fin s (suc m) e) h = no_zero s m e

-- ---- four side values

and_four : (a b c d : Bool) → (((a && b) && c) && d) ≡ (a && (b && (c && (d && true))))
and_four false b c d = refl
and_four true false c d = refl
and_four true true false d = refl
and_four true true true false = refl
and_four true true true true = refl

or_four : (a b c d : Bool) → (((a || b) || c) || d) ≡ (a || (b || (c || (d || false))))
or_four true b c d = refl
or_four false true c d = refl
or_four false false true d = refl
or_four false false false true = refl
or_four false false false false = refl

pub every_of_four : (t : Float → Bool) (s : List Float) → length s ≡ 4 →
    (((t (get_or s 0 nan) && t (get_or s 1 nan)) && t (get_or s 2 nan)) && t (get_or s 3 nan)) ≡ every_side t s
unfolding every_side
every_of_four t [] h = absurd (omega arith)
every_of_four t (a ∷ []) h = absurd (omega arith)
every_of_four t (a ∷ b ∷ []) h = absurd (omega arith)
every_of_four t (a ∷ b ∷ c ∷ []) h = absurd (omega arith)
every_of_four t (a ∷ b ∷ c ∷ d ∷ []) h = and_four (t a) (t b) (t c) (t d)
every_of_four t (a ∷ b ∷ c ∷ d ∷ e ∷ l) h = absurd (omega arith)

some_of_four : (t : Float → Bool) (s : List Float) → length s ≡ 4 →
    (((t (get_or s 0 nan) || t (get_or s 1 nan)) || t (get_or s 2 nan)) || t (get_or s 3 nan)) ≡ some_side t s
unfolding some_side
some_of_four t [] h = absurd (omega arith)
some_of_four t (a ∷ []) h = absurd (omega arith)
some_of_four t (a ∷ b ∷ []) h = absurd (omega arith)
some_of_four t (a ∷ b ∷ c ∷ []) h = absurd (omega arith)
some_of_four t (a ∷ b ∷ c ∷ d ∷ []) h = or_four (t a) (t b) (t c) (t d)
some_of_four t (a ∷ b ∷ c ∷ d ∷ e ∷ l) h = absurd (omega arith)

-- the four tests made one by one, as a function makes them that calls the test of one value
pub every_tested : (t : Float → Bool) (s : List Float) (a b c d : Bool) → length s ≡ 4 → a ≡ t (get_or s 0 nan) → b ≡ t (get_or s 1 nan)
    → c ≡ t (get_or s 2 nan) → d ≡ t (get_or s 3 nan) → (((a && b) && c) && d) ≡ every_side t s
every_tested t s a b c d h i j k l = rw (i, j, k, l) (every_of_four t s h)

pub some_tested : (t : Float → Bool) (s : List Float) (a b c d : Bool) → length s ≡ 4 → a ≡ t (get_or s 0 nan) → b ≡ t (get_or s 1 nan) → c ≡ t (get_or s 2 nan)
    → d ≡ t (get_or s 3 nan) → (((a || b) || c) || d) ≡ some_side t s
some_tested t s a b c d h i j k l = rw (i, j, k, l) (some_of_four t s h)

pub four_alike : (a b c d s t u w : Float) → a ≡ s → b ≡ t → c ≡ u → d ≡ w → a ∷ b ∷ c ∷ d ∷ [] ≡ s ∷ t ∷ u ∷ w ∷ []
four_alike a b c d s t u w h i j k = rw (h, i, j, k)
