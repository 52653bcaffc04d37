-- Tests of the four side values of a pair of legs, as docs/TERMS.md and the Rust's `arcs_crossing` have them. Definitions only.
use Rattle.std.specs.Prelude.{Bool, true, false, not, ◌&&◌, ◌||◌, List, [], ◌∷◌, Float}
use Rattle.std.specs.Float.{nan, inf, fin}
use Rattle.std.specs.Float.Ieee.{lt, le}
use Rattle.ieee754.specs.Size.{abs}
use Rattle.ieee754.specs.Value.{zero_float}

-- a side value grazes: its size is at most the margin
unfoldable pub grazes : Float → Float → Bool
grazes margin x = le (abs x) margin

unfoldable pub is_above : Float → Bool
is_above x = lt zero_float x

unfoldable pub is_below : Float → Bool
is_below x = lt x zero_float

-- Rust's `is_sign_negative`, of a zero too, and `is_sign_positive`. A NaN has no sign here.
unfoldable pub sign_negative : Float → Bool
sign_negative nan = false
sign_negative (inf s) = s
sign_negative (fin s m e) = s

unfoldable pub sign_positive : Float → Bool
sign_positive nan = false
sign_positive (inf s) = not s
sign_positive (fin s m e) = not s

unfoldable pub some_side : (Float → Bool) → List Float → Bool
some_side t [] = false
some_side t (s ∷ l) = t s || some_side t l

unfoldable pub every_side : (Float → Bool) → List Float → Bool
every_side t [] = true
every_side t (s ∷ l) = t s && every_side t l

-- the side values show that a pair is apart: none grazes, some is above zero and some below
unfoldable pub shows_apart : Float → List Float → Bool
shows_apart margin s = not (some_side (grazes margin) s) && some_side is_above s && some_side is_below s
