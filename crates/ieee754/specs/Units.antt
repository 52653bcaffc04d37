-- The size of a float as a whole number of units, the smallest floats of its format. Definitions only.
use Rattle.std.specs.Prelude.{ℕ, ◌*◌, ◌/◌, ◌^◌, Bool, false, not, Float}
use Rattle.std.specs.Float.{nan, inf, fin, Format}
use Rattle.std.specs.Float.Ieee.{low, up, down}

-- finite, with the sign clear
abbrev pub not_negative : Float → Bool
not_negative nan = false
not_negative (inf s) = false
not_negative (fin s m e) = not s

-- the size of a finite float in units of 2 ^ -low f. Of a float that the format f holds it is exact: the division leaves nothing (`ExactUnits` of
-- RoundingLaws.antt).
abbrev pub units_in : Format → Float → ℕ
units_in f nan = 0
units_in f (inf s) = 0
units_in f (fin s m e) = m * up e * 2 ^ low f / down e
