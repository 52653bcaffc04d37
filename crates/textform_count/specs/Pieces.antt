-- What the counting program holds, and prints, of an input that it reads in pieces, one after another (textform's `Pieces`). Definitions only.
use Rattle.std.specs.Prelude.{◌≡◌, List, ℕ, Float, Option}
use Rattle.textform.specs.declared.inner.reader.Reader.{Reader}
use Rattle.textform.specs.Held.{held_state}
use Rattle.textform.specs.Kept.{kept_reading}
use Rattle.textform.specs.Pieces.{OfReads}
use Rattle.textform_count.specs.Count.{output}

-- the reader and the two lists hold what was kept of the pieces that were read, one after another
abbrev pub ReadInPieces : Option (List ℕ) → Option (List ℕ) → Reader → List Float → List Float → Type 0
ReadInPieces before after r a b = OfReads before after (λ (bytes : List ℕ). held_state r a b ≡ kept_reading bytes)

-- the text is what is printed for the pieces that were read, one after another
abbrev pub PrintedOfPieces : Option (List ℕ) → Option (List ℕ) → List ℕ → Type 0
PrintedOfPieces before after text = OfReads before after (λ (bytes : List ℕ). text ≡ output bytes)
