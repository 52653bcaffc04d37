-- Clean pairs per thousand, over whole numbers. Definitions only.
use Rattle.std.specs.Prelude.{ℕ, ◌+◌, ◌*◌, ◌/◌, eqb}
use Rattle.arcstring_check.specs.Answer.{pick}
use Rattle.arcstring_tally.specs.declared.counts.Counts.{Counts}
use Rattle.arcstring_visit.specs.Visit.{most_pairs}
use Rattle.same_crossings.specs.CountLaws.{sum_of_counts}

-- the most tracks of a season
abbrev pub most_tracks : ℕ
most_tracks = 1000

-- the most pairs of all tracks with the limit: 1,000 times those of two strings
abbrev pub most_pairs_of_season : ℕ
most_pairs_of_season = most_tracks * most_pairs

-- n / d to the nearest whole number, an exact half upward: that is n / d + 1 / 2 without its fraction; 0 where d is 0
unfoldable pub nearest_quotient : ℕ → ℕ → ℕ
nearest_quotient n d = pick (eqb d 0) 0 ((2 * n + d) / (2 * d))

-- clean times 1,000, divided by all pairs
unfoldable pub permille : Counts → ℕ
permille c = nearest_quotient (1000 * c.clean) (sum_of_counts c)
