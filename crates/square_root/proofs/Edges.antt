-- The tests that `sqrt` makes of x, and √x where no root is worked out: at a NaN, the infinities, the zeros and below zero. Assumes nothing.
use mathlib.Core.Path.{◌≡◌, refl, sym, ap, ◌∙◌, subst}
use mathlib.Core.Bool.{Bool, true, false, not, true≢false}
use mathlib.Core.Logic.{◌⊎◌, inl, inr}
use Prim.Native.Nat.{ℕ, zero, suc, ◌^◌, ◌≤◌, ◌<◌}
use native.Mathlib.Nat.{not-le_of_lt, mod-eq_of_lt, eq-zero-or-pos}
use native.Mathlib.Omega.{arith}
use lib.Dec.{T, ltb}
use lib.Arith.{le→nltb}
use lib.Ieee.{Float, nan, inf, fin, binary64, fits, is_nan, lt, of_bits, to_bits, nan_bits}
use lib.Ieee.Fits.{up_pos}
use lib.Ieee.Bits.{of_bits-to_bits, nan_bits_above}
use borrow.Author.Tests.{ltb-false}
use Rattle.square_root.specs.Sqrt.{sqrt_of}
use Rattle.square_root.proofs.KnownRoots.{roots_elsewhere}
use Rattle.square_root.proofs.Units.{finite_bits_lt}

-- ---- above zero

pub is_no_nan : (x : Float) → lt (of_bits binary64 0) x ≡ true → T (not (is_nan x))
unfolding lt of_bits is_nan
is_no_nan nan h = absurd (true≢false (sym h))
is_no_nan (inf s) h = tt
is_no_nan (fin s m e) h = tt

zero_itself : lt (of_bits binary64 0) (of_bits binary64 0) ≡ false
unfolding lt of_bits
zero_itself = refl

pub bits_pos : (x : Float) → T (fits binary64 x) → lt (of_bits binary64 0) x ≡ true → 1 ≤ to_bits binary64 x
bits_pos x F h = go (eq-zero-or-pos (to_bits binary64 x))
  where
    go : (to_bits binary64 x ≡ 0) ⊎ (0 < to_bits binary64 x) → 1 ≤ to_bits binary64 x
    go (inl e) =
        let is : x ≡ of_bits binary64 0 = sym (of_bits-to_bits binary64 x F) ∙ ap (of_bits binary64) e in
        absurd (true≢false (sym h ∙ ap (lt (of_bits binary64 0)) is ∙ zero_itself))
    go (inr p) = p

pub no_nan_bits : (r : ℕ) → r < 0x7ff0_0000_0000_0000 → T (not (nan_bits binary64 r))
no_nan_bits r h =
    let under : r < 2 ^ 63 = omega arith in
    let most : r ≤ 0x7ff0_0000_0000_0000 = omega arith in
    subst (λ (b : Bool). T (not b)) (sym (nan_bits_above binary64 r ∙ ap (λ (x : ℕ). ltb 0x7ff0_0000_0000_0000 x) (mod-eq_of_lt under)))
    (le→nltb 0x7ff0_0000_0000_0000 r most)

-- above zero, and its pattern not below the infinity's: the infinity
pub infinite : (x : Float) → T (fits binary64 x) → lt (of_bits binary64 0) x ≡ true → 0x7ff0_0000_0000_0000 ≤ to_bits binary64 x → x ≡ sqrt_of x
unfolding lt of_bits sqrt_of
infinite nan F h l = refl
infinite (inf true) F h l = absurd (true≢false (sym h))
infinite (inf false) F h l = refl
infinite (fin true m e) F h l = absurd (true≢false (sym h))
infinite (fin false m e) F h l = absurd (not-le_of_lt (finite_bits_lt (fin false m e) F tt) l)

-- ---- below zero

pub negative : (x : Float) → lt x (of_bits binary64 0) ≡ true → of_bits binary64 0x7ff8_0000_0000_0000 ≡ sqrt_of x
unfolding of_bits
negative x h = sym (roots_elsewhere.below_zero x h)

-- ---- neither: a NaN or a zero

pub neither : (x : Float) → lt (of_bits binary64 0) x ≡ false → lt x (of_bits binary64 0) ≡ false → x ≡ sqrt_of x
unfolding lt of_bits sqrt_of
neither nan h k = refl
neither (inf true) h k = absurd (true≢false k)
neither (inf false) h k = absurd (true≢false h)
neither (fin s zero e) h k = refl
neither (fin true (suc m) e) h k = absurd (omega (arith, ltb-false, up_pos e))
neither (fin false (suc m) e) h k = absurd (omega (arith, ltb-false, up_pos e))
