-- A row of the text form written out, after its name: three words of 64 bits, each in 16 hexadecimal digits after a blank, and a line feed; and the floats
-- that have these bits. Definitions only.
use Rattle.std.specs.Prelude.{List, [], ◌∷◌, ◌++◌, ℕ, zero, suc, ◌+◌, ◌/◌, ◌%◌, ◌^◌, ◌<◌, ltb, Float}
use Rattle.std.specs.Float.{binary64}
use Rattle.std.specs.Float.Ieee.{of_bits}
use Rattle.arcstring_check.specs.Answer.{pick}
use Rattle.textform.specs.Text.{blank, line_feed}

-- the byte of a hexadecimal digit: 0 to 9, A to F
unfoldable pub hex_glyph : ℕ → ℕ
hex_glyph d = pick (ltb d 10) (48 + d) (55 + d)

-- so many digits of a word, the last digit last
unfoldable pub hex_digits : ℕ → ℕ → List ℕ
hex_digits zero w = []
hex_digits (suc k) w = hex_digits k (w / 16) ++ (hex_glyph (w % 16) ∷ [])

-- the digits of a 64-bit word
abbrev pub word_digits : ℕ
word_digits = 16

-- a word after a blank
abbrev pub word_text : ℕ → List ℕ
word_text w = blank ∷ hex_digits word_digits w

-- the bits of a point's three floats
pub record Row : Type 0 where
  pub x : ℕ
  pub y : ℕ
  pub z : ℕ

-- each in 64 bits
pub record RowFits (r : Row) : Type 0 where
  pub x : r.x < 2 ^ 64
  pub y : r.y < 2 ^ 64
  pub z : r.z < 2 ^ 64

-- a row after its name
abbrev pub row_rest : Row → List ℕ
row_rest r = word_text r.x ++ (word_text r.y ++ (word_text r.z ++ (line_feed ∷ [])))

abbrev pub row_floats : Row → List Float
row_floats r = of_bits binary64 r.x ∷ of_bits binary64 r.y ∷ of_bits binary64 r.z ∷ []
