-- The listing of what the pairs of a string with itself keep, and whether they keep any. Definitions only.
use Rattle.std.specs.Prelude.{Bool, false, ◌&&◌, List, map, ℕ, length, leb, ltb, Float}
use Rattle.sphericalpoint.specs.Point.{normalized_unless_short}
use Rattle.arcstring_check.specs.Answer.{Answer, answered, unless_refused}
use Rattle.arcstring_check.specs.Check.{stored_check, margin_check, no_margin}
use Rattle.arcstring.specs.Points.{points}
use Rattle.arcstring.specs.Leg.{legs}
use Rattle.arcstring_pair.specs.declared.pair.Pair.{Pair}
use Rattle.arcstring_tally.specs.Pairs.{pairs_within, Mark, kept_marks}
use Rattle.arcstring_listing.specs.Listing.{Listing, listing_of, in_room}

-- the listing of a string with itself has its kept points normalised
unfoldable pub normalized_listing : Listing → Listing
normalized_listing l = record { marks = map (λ (m : Mark). record { point = normalized_unless_short m.point; byte = m.byte }) l.marks; counts = l.counts }

-- the pairs of a string's legs with those after the next one, at a margin
unfoldable pub self_pairs : Float → List Float → Bool → List Pair
self_pairs margin v closed = pairs_within margin (legs (points v) closed)

-- A string against itself: legs i and j with i + 2 ≤ j ≤ n - 2, so that the closing leg of a closed string is not visited. Below n = 4 there are no such pairs.
unfoldable pub self_crossings : List Float → Float → ℕ → ℕ → Answer Listing
self_crossings v margin points_room marks_room =
    unless_refused (stored_check v)
    (unless_refused (margin_check margin) (in_room (normalized_listing (listing_of (self_pairs margin v false))) points_room marks_room))

-- `crosses_self` takes no margin. It also visits the closing leg of a closed string, and it too answers no below n = 4.
unfoldable pub crosses_self : List Float → Bool → Answer Bool
crosses_self v closed =
    unless_refused (stored_check v) (answered (leb 4 (length (points v)) && ltb 0 (length (kept_marks (self_pairs no_margin v closed)))))
