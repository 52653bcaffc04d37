-- The value of a float: what is left of it when +0 and -0 are made one. Two floats that a format holds have the same value exactly when they are the same float
-- or two zeros.
-- Definitions only.
use Rattle.std.specs.Prelude.{◌≡◌, ◌⊎◌, Bool, true, false, ℕ, zero, suc, ℤ, pos, T, Float}
use Rattle.std.specs.Float.{nan, inf, fin}

-- `vnum s n e` is the number ±(n + 1) * 2 ^ e, negative where s is true
pub data Value : Type 0 where
  vnan : Value
  vinf : Bool → Value
  vzero : Value
  vnum : Bool → ℕ → ℤ → Value

abbrev pub value : Float → Value
value nan = vnan
value (inf s) = vinf s
value (fin s zero e) = vzero
value (fin s (suc n) e) = vnum s n e

-- the zero whose sign is clear, as the Rust writes 0.0
abbrev pub zero_float : Float
zero_float = fin false 0 (pos 0)

-- a float that has the value
abbrev pub float : Value → Float
float vnan = nan
float (vinf s) = inf s
float vzero = zero_float
float (vnum s n e) = fin s (suc n) e

-- a zero, of either sign
abbrev pub is_zero : Float → Bool
is_zero nan = false
is_zero (inf s) = false
is_zero (fin s zero e) = true
is_zero (fin s (suc n) e) = false

-- the same float, or two zeros
abbrev pub Alike : Float → Float → Type 0
Alike x y = (x ≡ y) ⊎ (T (is_zero x) × T (is_zero y))
