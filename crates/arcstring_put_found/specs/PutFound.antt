-- The parts of what is found, as a C program gets them in the places that it lent: of counts, of a listing, of a cut, of a pair. Definitions only.
use Rattle.std.specs.Prelude.{List, [], ◌∷◌, ℕ, Float}
use Rattle.std.proofs.Math.Option.{Option, none, some}
use Rattle.sphericalpoint.specs.declared.SphericalPoint.{SphericalPoint}
use Rattle.arcstring_check.specs.Answer.{flag_number}
use Rattle.arcstring_pair.specs.Pair.{Judged}
use Rattle.arcstring_tally.specs.declared.counts.Counts.{Counts}
use Rattle.arcstring_put.specs.Put.{three_floats}

-- ---- counts, a listing, pieces

-- clean, end, grazing, apart
abbrev pub four_counts : Counts → List ℕ
four_counts c = c.clean ∷ c.end ∷ c.grazing ∷ c.apart ∷ []

-- how many points a listing keeps, and its counts
abbrev pub listed_kept : ℕ × Counts → ℕ
listed_kept r = r.0

abbrev pub listed_counts : ℕ × Counts → List ℕ
listed_counts r = four_counts r.1

-- how many pieces, and 0 for uncut
abbrev pub piece_number : Option ℕ → ℕ
piece_number none = 0
piece_number (some n) = n

-- ---- a pair

abbrev pub class_byte : Judged → ℕ
class_byte j = j.class

-- 1 where the listings keep the pair's point
abbrev pub kept_byte : Judged → ℕ
kept_byte j = flag_number j.kept

-- the point that the Rust answers; where it answers none the place keeps what it held
abbrev pub point_over : List Float → Option SphericalPoint → List Float
point_over old none = old
point_over old (some p) = three_floats p

abbrev pub point_place : List Float → Judged → List Float
point_place old j = point_over old j.point
