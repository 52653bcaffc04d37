-- The counts of the pairs that two strings have, and the listings of what they keep; and of a leg and a string. Definitions only.
use Rattle.std.specs.Prelude.{Bool, List, map, ℕ, ◌*◌, ◌%◌, length, eqb, Float}
use Rattle.arcstring_check.specs.Answer.{Answer, answered, unless_refused, map_answer}
use Rattle.arcstring.specs.Points.{points, flat}
use Rattle.arcstring_check.specs.Check.{stored_check, margin_check, no_margin, room_check}
use Rattle.arcstring_pair.specs.declared.pair.Pair.{Pair}
use Rattle.arcstring.specs.Leg.{Leg, leg_check, legs}
use Rattle.arcstring_pair.specs.Pair.{pair_of}
use Rattle.arcstring_tally.specs.declared.counts.Counts.{Counts}
use Rattle.arcstring_tally.specs.Pairs.{pairs_between, counts_of, Mark, kept_marks, mark_point, mark_byte}

-- ---- a listing: the kept points in sequence, with the counts of all visited pairs

pub record Listing : Type 0 where
  pub marks : List Mark
  pub counts : Counts

unfoldable pub listing_of : List Pair → Listing
listing_of ps = record { marks = kept_marks ps; counts = counts_of ps }

-- 7 where the kept points or their marks are longer than the buffers lent for them, of so many floats and so many bytes
unfoldable pub in_room : Listing → ℕ → ℕ → Answer Listing
in_room l points_room marks_room =
    unless_refused (room_check (3 * length l.marks) points_room) (unless_refused (room_check (length l.marks) marks_room) (answered l))

-- ---- the calls: 9 comes after the checks of the last list and before 7

-- the pairs of two strings' legs at a margin
unfoldable pub visited : Float → List Float → Bool → List Float → Bool → List Pair
visited margin a a_closed b b_closed = pairs_between margin (legs (points a) a_closed) (legs (points b) b_closed)

unfoldable pub counted : List Float → Bool → List Float → Bool → Float → Answer Counts
counted a a_closed b b_closed margin =
    unless_refused (stored_check a)
    (unless_refused (stored_check b) (unless_refused (margin_check margin) (answered (counts_of (visited margin a a_closed b b_closed)))))

unfoldable pub crossings : List Float → Bool → List Float → Bool → Float → ℕ → ℕ → Answer Listing
crossings a a_closed b b_closed margin points_room marks_room =
    unless_refused (stored_check a)
    (unless_refused (stored_check b) (unless_refused (margin_check margin)
    (in_room (listing_of (visited margin a a_closed b b_closed)) points_room marks_room)))

-- one leg against a string
unfoldable pub leg_pairs : Float → Leg → List Float → Bool → List Pair
leg_pairs margin l v closed = map (pair_of margin l) (legs (points v) closed)

unfoldable pub leg_crossings : Leg → List Float → Bool → Float → ℕ → ℕ → Answer Listing
leg_crossings l v closed margin points_room marks_room =
    unless_refused (leg_check l)
    (unless_refused (stored_check v) (unless_refused (margin_check margin) (in_room (listing_of (leg_pairs margin l v closed)) points_room marks_room)))

-- whether two points are on the same side: the leg between them has an even number of kept points with the string. It takes no margin.
unfoldable pub same_side : Leg → List Float → Bool → Answer Bool
same_side l v closed =
    unless_refused (leg_check l) (unless_refused (stored_check v) (answered (eqb (length (kept_marks (leg_pairs no_margin l v closed)) % 2) 0)))

-- ---- what is answered, and what is written

abbrev pub listed_result : Answer Listing → Answer (ℕ × Counts)
listed_result a = map_answer (λ (l : Listing). (length l.marks, l.counts)) a

abbrev pub listed_floats : Answer Listing → Answer (List Float)
listed_floats a = map_answer (λ (l : Listing). flat (map mark_point l.marks)) a

abbrev pub listed_bytes : Answer Listing → Answer (List ℕ)
listed_bytes a = map_answer (λ (l : Listing). map mark_byte l.marks) a
