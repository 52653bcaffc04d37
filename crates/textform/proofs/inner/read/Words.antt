-- Which words of 64 bits are a NaN's, and what stands in the place of a word's float. Assumes nothing.
use mathlib.Core.Path.{◌≡◌, refl, sym, ◌∙◌, subst}
use mathlib.Core.Bool.{Bool, true, false, not, true≢false, false≢true}
use Prim.Native.Nat.{ℕ, ◌%◌, ◌≤◌, ◌<◌}
use lib.Dec.{T, ltb}
use lib.IntN.{pos}
use lib.Ieee.{Float, nan, inf, fin, binary64, is_nan, of_bits, nan_bits}
use lib.Ieee.Bits.{nan_bits_is, nan_bits_above}
use borrow.Author.Tests.{lt-ltb, le-ltb}
use Rattle.textform.specs.Kept.{in_place}

-- the bits of infinity and of -0
abbrev infinity_bits : ℕ
infinity_bits = 0x7ff0000000000000

abbrev sign_bit : ℕ
sign_bit = 0x8000000000000000

above : (word : ℕ) → nan_bits binary64 word ≡ ltb infinity_bits (word % sign_bit)
above word = nan_bits_above binary64 word

read_nan : (word : ℕ) → is_nan (of_bits binary64 word) ≡ ltb infinity_bits (word % sign_bit)
read_nan word = sym (nan_bits_is binary64 word) ∙ above word

by_kind : (x : Float) → is_nan x ≡ true → fin false 1 (pos 1) ≡ in_place x
unfolding is_nan
by_kind nan h = refl
by_kind (inf s) h = absurd (false≢true h)
by_kind (fin s m e) h = absurd (false≢true h)

by_kind_other : (x : Float) → is_nan x ≡ false → x ≡ in_place x
unfolding is_nan
by_kind_other nan h = absurd (true≢false h)
by_kind_other (inf s) h = refl
by_kind_other (fin s m e) h = refl

module _ (word : ℕ) where
  -- the test of the code finds a NaN's word
  pub in_place_nan : infinity_bits < word % sign_bit → fin false 1 (pos 1) ≡ in_place (of_bits binary64 word)
  in_place_nan h = by_kind (of_bits binary64 word) (read_nan word ∙ lt-ltb _ _ h)

  pub not_nan : word % sign_bit ≤ infinity_bits → T (not (nan_bits binary64 word))
  not_nan h = subst (λ (b : Bool). T (not b)) (sym (above word ∙ le-ltb _ _ h)) tt

  pub in_place_other : word % sign_bit ≤ infinity_bits → of_bits binary64 word ≡ in_place (of_bits binary64 word)
  in_place_other h = by_kind_other (of_bits binary64 word) (read_nan word ∙ le-ltb _ _ h)
