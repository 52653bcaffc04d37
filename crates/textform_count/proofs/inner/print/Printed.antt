-- What stands in the buffer once every part is written, one after the other: the four counts with a byte after them, and the heading before them. Assumes
-- nothing.
use mathlib.Core.Path.{◌≡◌, ◌∙◌}
use mathlib.Core.List.{List, [], ◌∷◌, ◌++◌, append_assoc}
use Prim.Native.Nat.{ℕ}
use Rattle.arcstring_tally.specs.declared.counts.Counts.{Counts}
use Rattle.textform.specs.Text.{blank, line_feed}
use Rattle.textform.proofs.inner.print.Printed.{after, number}
use Rattle.textform_count.specs.Print.{heading, four_counts, counts_text}

-- each count and the byte after it, behind what stood there
module _ (c : Counts) (byte : ℕ) (old clean end grazing all : List ℕ) where
  pub four_written : clean ≡ old ++ number c.clean blank → end ≡ clean ++ number c.end blank → grazing ≡ end ++ number c.grazing blank
      → all ≡ grazing ++ number c.apart byte → all ≡ old ++ (four_counts c ++ (byte ∷ []))
  unfolding four_counts
  four_written e₁ e₂ e₃ e₄ =
      let end-end = e₂ ∙ after (number c.end blank) e₁ in
      let grazing-end = e₃ ∙ after (number c.grazing blank) end-end in
      e₄ ∙ after (number c.apart byte) grazing-end ∙ simp append_assoc

-- the four counts behind the heading
pub counts_written : (c : Counts) (line all : List ℕ) → line ≡ heading ++ (line_feed ∷ []) → all ≡ line ++ (four_counts c ++ (line_feed ∷ []))
    → all ≡ counts_text c
unfolding counts_text
counts_written c line all e f = f ∙ after (four_counts c ++ (line_feed ∷ [])) e ∙ simp append_assoc
