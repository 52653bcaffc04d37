-- The pairs that the walk over legs visits at a margin, by position: for the contracts of inner functions. Definitions only.
use Rattle.std.specs.Prelude.{Bool, List, map, ℕ, ◌+◌, ◌-◌, take, drop, Float}
use Rattle.arcstring_check.specs.Answer.{pick}
use Rattle.arcstring_pair.specs.declared.pair.Pair.{Pair}
use Rattle.arcstring.specs.Leg.{Leg, leg_at, legs_from}
use Rattle.arcstring_pair.specs.Pair.{pair_of}
use Rattle.arcstring_tally.specs.Pairs.{pairs_between, pairs_within}

-- how many pairs two strings have at most: 1,024 times 1,024
abbrev pub most_pairs : ℕ
most_pairs = 1048576

-- a leg's pairs with the legs from position `from` up to, not including, `to`
unfoldable pub row_pairs : Float → Leg → List Float → ℕ → ℕ → List Pair
row_pairs margin a v from to = map (pair_of margin a) (legs_from v from to)

-- a leg's pairs with the legs at the positions from j up to m of a list
unfoldable pub found_pairs : Float → Leg → List Float → ℕ → List ℕ → ℕ → ℕ → List Pair
found_pairs margin a v n flagged j m = map (λ (k : ℕ). pair_of margin a (leg_at v n k)) (take (m - j) (drop j flagged))

-- where the row of leg i begins: within one string after the next leg
unfoldable pub row_start : Bool → ℕ → ℕ
row_start within i = pick within (i + 2) 0

-- the pairs that a walk visits from its leg i on: within one string, or between two
unfoldable pub visits_from : Float → Bool → List Float → ℕ → ℕ → List Float → ℕ → List Pair
visits_from margin within a i la b lb = pick within (pairs_within margin (legs_from a i la)) (pairs_between margin (legs_from a i la) (legs_from b 0 lb))
