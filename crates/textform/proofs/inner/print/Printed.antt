-- What stands in the buffer once every part of a text is written, one after the other: a number and the byte after it, and a refusal. Assumes
-- nothing.
use mathlib.Core.Path.{◌≡◌, ap, ◌∙◌}
use mathlib.Core.List.{List, [], ◌∷◌, ◌++◌, append_assoc}
use Prim.Native.Nat.{ℕ, ◌+◌, ◌<◌}
use native.Mathlib.Numerals.{add-one}
use lib.ListN.{length, take, set}
use lib.Seq.{take-suc-set}
use Rattle.textform.specs.Text.{blank, line_feed}
use Rattle.textform.specs.Print.{decimal, refusal_word, refusal_text}

-- one part more after what stands there already
pub after : {xs ys : List ℕ} (zs : List ℕ) → xs ≡ ys → xs ++ zs ≡ ys ++ zs
after zs e = ap (λ (l : List ℕ). l ++ zs) e

-- a byte after a number's digits
pub number_written : (old out : List ℕ) (at n end byte : ℕ) → end < length out → take end out ≡ take at old ++ decimal n
    → take (end + 1) (set out end byte) ≡ take at old ++ (decimal n ++ (byte ∷ []))
number_written old out at n end byte room e =
    rw add-one (take-suc-set out end byte room) ∙ after (byte ∷ []) e ∙ append_assoc (take at old) (decimal n) (byte ∷ [])

-- a number and the byte after it
abbrev pub number : ℕ → ℕ → List ℕ
number n byte = decimal n ++ (byte ∷ [])

pub refusal_written : (n : ℕ) (word all : List ℕ) → word ≡ refusal_word ++ (blank ∷ []) → all ≡ word ++ number n line_feed → all ≡ refusal_text n
unfolding refusal_text
refusal_written n word all e f = f ∙ after (number n line_feed) e ∙ simp append_assoc
