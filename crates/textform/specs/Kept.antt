-- The reading as the code keeps it: at most 1,025 points of each string, and 2 in the place of a NaN, which Rattle does not make from bits. For the
-- contracts of inner functions. Definitions only.
use Rattle.std.specs.Prelude.{false, List, [], ◌∷◌, ◌++◌, ℕ, ◌+◌, ◌-◌, ◌%◌, ◌^◌, ◌≤◌, ◌<◌, length, ltb, pos, Float}
use Rattle.std.specs.Float.{nan, inf, fin}
use Rattle.arcstring_check.specs.Answer.{pick}
use Rattle.textform.specs.Text.{row_start, malformed_place, float_bytes, State, fed_with, start}

-- The floats kept of a string: those of 1,025 points, one more than a string may have.
abbrev pub floats_kept : ℕ
floats_kept = 3075

-- 2 in the place of a NaN: both are out of range
abbrev pub in_place : Float → Float
in_place nan = fin false 1 (pos 1)
in_place (inf s) = inf s
in_place (fin s m e) = fin s m e

-- one float more, unless there are 1,025 points
unfoldable pub keep : Float → List Float → List Float
keep x l = pick (ltb (length l) floats_kept) (l ++ (in_place x ∷ [])) l

-- how many digits of a float stand before a place
unfoldable pub digits_before : ℕ → ℕ
digits_before place = (place - (row_start + 1)) % float_bytes - 1

-- a reading within its bounds: its place, the digits of its float so far, and how many floats of A and of B are kept
pub record Sound (place word a b : ℕ) : Type 0 where
  pub place_within : place ≤ malformed_place
  pub word_fits : word < 16 ^ digits_before place
  pub a_fits : a ≤ floats_kept
  pub b_fits : b ≤ floats_kept

unfoldable pub kept_reading : List ℕ → State
kept_reading bytes = fed_with keep start bytes
