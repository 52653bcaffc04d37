-- What is claimed of permille: it is the nearest whole number, the larger of two that are as near, 0 without pairs, and at most 1,000. Definitions only. The
-- proofs are in `proofs/PermilleLaws.antt`.
use Rattle.std.specs.Prelude.{◌≡◌, List, [], ◌∷◌, ℕ, ◌+◌, ◌-◌, ◌*◌, ◌≤◌}
use Rattle.arcstring_tally.specs.declared.counts.Counts.{Counts}
use Rattle.same_crossings.specs.CountLaws.{sum_of_counts}
use Rattle.textform_report.specs.Permille.{nearest_quotient, permille}

-- how far one number is from another: one of the two differences is 0, since a difference stops there
abbrev pub distance : ℕ → ℕ → ℕ
distance m n = (m - n) + (n - m)

-- Of n / d, times d so that all numbers are whole: q is at most a half away, no number is nearer, and of those that are as near it is the largest.
pub record NearestHalfUp (n d q : ℕ) : Type 0 where
  pub half : 2 * distance (q * d) n ≤ d
  pub nearest : (m : ℕ) → distance (q * d) n ≤ distance (m * d) n
  pub upward : (m : ℕ) → distance (m * d) n ≡ distance (q * d) n → m ≤ q

abbrev pub QuotientIsNearest : Type 0
QuotientIsNearest = (n d : ℕ) → 1 ≤ d → NearestHalfUp n d (nearest_quotient n d)

-- there is no other such number
abbrev pub NearestIsOne : Type 0
NearestIsOne = (n d q r : ℕ) → 1 ≤ d → NearestHalfUp n d q → NearestHalfUp n d r → q ≡ r

abbrev pub PermilleIsNearest : Type 0
PermilleIsNearest = (c : Counts) → 1 ≤ sum_of_counts c → NearestHalfUp (1000 * c.clean) (sum_of_counts c) (permille c)

abbrev pub PermilleOfNone : Type 0
PermilleOfNone = (c : Counts) → sum_of_counts c ≡ 0 → permille c ≡ 0

abbrev pub PermilleAtMost : Type 0
PermilleAtMost = (c : Counts) → permille c ≤ 1000

-- 1 in 16, 1 in 2,000, 3 in 2,000: halves; 1 in 2,001; 2 in 3; all; none
abbrev pub KnownPermilles : Type 0
KnownPermilles =
    ◌≡◌ {A = List ℕ}
    (nearest_quotient 1000 16
    ∷ nearest_quotient 1000 2000
    ∷ nearest_quotient 3000 2000
    ∷ nearest_quotient 1000 2001
    ∷ nearest_quotient 2000 3
    ∷ nearest_quotient 1000 1
    ∷ nearest_quotient 0 7
    ∷ nearest_quotient 0 0
    ∷ [])
    (63 ∷ 1 ∷ 2 ∷ 0 ∷ 667 ∷ 1000 ∷ 0 ∷ 0 ∷ [])
