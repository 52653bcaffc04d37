-- What is claimed of the counts and the clean points that the calls answer, at every margin: the counts add up to the number of visited pairs, the counting
-- call and the listing give the same ones, the clean points are those of the clean pairs, one for each, the counts tell how much room a listing needs at
-- most, and those of a track's runs add up. Definitions only. The proofs are in `proofs/Counting.antt`, `proofs/Rooms.antt` and `proofs/Runs.antt`.
use Rattle.std.specs.Prelude.{◌≡◌, Bool, false, ℕ, ◌+◌, ◌-◌, ◌*◌, ◌/◌, ◌≤◌, length, Float}
use mathlib.Core.List.{List, [], ◌∷◌, ◌++◌, map, filter_map}
use Rattle.std.proofs.Math.Option.{Option, none, some}
use Rattle.sphericalpoint.specs.declared.SphericalPoint.{SphericalPoint}
use Rattle.sphericalpoint.specs.Point.{normalized_unless_short}
use Rattle.arcstring_check.specs.Answer.{answered}
use Rattle.arcstring_check.specs.Check.{stored_check, margin_check}
use Rattle.arcstring.specs.Points.{itself}
use Rattle.arcstring_pair.specs.declared.pair.Pair.{Pair}
use Rattle.arcstring_pair.specs.declared.pair.Pair.TheVariants.{Clean, End, Grazing, Apart}
use Rattle.arcstring.specs.Leg.{Leg, leg_check, legs, leg_count}
use Rattle.arcstring_tally.specs.declared.counts.Counts.{Counts}
use Rattle.arcstring_tally.specs.Pairs.{pairs_between, counts_of, clean_points}
use Rattle.arcstring_listing.specs.Listing.{Listing, listing_of, visited, counted, crossings, leg_pairs, leg_crossings}
use Rattle.arcstring_self.specs.SelfListing.{normalized_listing, self_pairs, self_crossings}

-- ---- how many pairs

abbrev pub sum_of_counts : Counts → ℕ
sum_of_counts c = c.clean + c.end + c.grazing + c.apart

-- the vertices of a flat list, and the legs of a string that has them
abbrev pub vertices_in : List Float → ℕ
vertices_in v = length v / 3

abbrev pub legs_in : List Float → Bool → ℕ
legs_in v closed = leg_count (vertices_in v) closed

-- two strings: legs times legs, by the counting call
abbrev pub CountsAddUp : Type 0
CountsAddUp =
    (a : List Float) (a_closed : Bool) (b : List Float) (b_closed : Bool) (margin : Float) (c : Counts) → counted a a_closed b b_closed margin ≡ answered c
    → sum_of_counts c ≡ legs_in a a_closed * legs_in b b_closed

-- and by the listing, which has the counts of the counting call
abbrev pub ListingAgrees : Type 0
ListingAgrees =
    (a : List Float) (a_closed : Bool) (b : List Float) (b_closed : Bool) (margin : Float) (p m : ℕ) (l : Listing)
    → crossings a a_closed b b_closed margin p m ≡ answered l
    → counted a a_closed b b_closed margin ≡ answered l.counts

abbrev pub ListingAddsUp : Type 0
ListingAddsUp =
    (a : List Float) (a_closed : Bool) (b : List Float) (b_closed : Bool) (margin : Float) (p m : ℕ) (l : Listing)
    → crossings a a_closed b b_closed margin p m ≡ answered l
    → sum_of_counts l.counts ≡ legs_in a a_closed * legs_in b b_closed

-- one leg and a string: the string's legs
abbrev pub LegListingAddsUp : Type 0
LegListingAddsUp =
    (arc : Leg) (v : List Float) (closed : Bool) (margin : Float) (p m : ℕ) (l : Listing) → leg_crossings arc v closed margin p m ≡ answered l
    → sum_of_counts l.counts ≡ legs_in v closed

-- a string of n vertices with itself: half of (n - 2) * (n - 3), where a difference stops at 0, so that there are no pairs below n = 4
abbrev pub SelfListingAddsUp : Type 0
SelfListingAddsUp =
    (v : List Float) (margin : Float) (p m : ℕ) (l : Listing) → self_crossings v margin p m ≡ answered l
    → sum_of_counts l.counts * 2 ≡ (vertices_in v - 2) * (vertices_in v - 3)

-- ---- the clean points

-- the point of a clean pair; a pair of another class has none here
abbrev pub point_of_clean : Pair → Option SphericalPoint
point_of_clean (Clean p) = some p
point_of_clean (End p) = none
point_of_clean (Grazing o) = none
point_of_clean Apart = none

-- as many points as there are clean and grazing pairs: no other pair's is kept, and of the grazing ones not every
abbrev pub room_for : Counts → ℕ
room_for c = c.clean + c.grazing

-- What a listing says of the visited pairs `ps`: its counts are theirs; its clean points are the points of the clean pairs, in sequence, one for each, as
-- `written` writes them, and so as many as its count says; and it keeps no more points than there are clean and grazing pairs.
pub record ListedOf (ps : List Pair) (written : SphericalPoint → SphericalPoint) (l : Listing) : Type 0 where
  pub counts_of_pairs : l.counts ≡ counts_of ps
  pub clean_of_pairs : clean_points l.marks ≡ map written (filter_map point_of_clean ps)
  pub as_many : length (clean_points l.marks) ≡ l.counts.clean
  pub kept_at_most : length l.marks ≤ room_for l.counts

abbrev pub ListingOfPairs : Type 0
ListingOfPairs =
    (a : List Float) (a_closed : Bool) (b : List Float) (b_closed : Bool) (margin : Float) (p m : ℕ) (l : Listing)
    → crossings a a_closed b b_closed margin p m ≡ answered l
    → ListedOf (visited margin a a_closed b b_closed) itself l

abbrev pub LegListingOfPairs : Type 0
LegListingOfPairs =
    (arc : Leg) (v : List Float) (closed : Bool) (margin : Float) (p m : ℕ) (l : Listing) → leg_crossings arc v closed margin p m ≡ answered l
    → ListedOf (leg_pairs margin arc v closed) itself l

-- of a string with itself the points are written normalised
abbrev pub SelfListingOfPairs : Type 0
SelfListingOfPairs =
    (v : List Float) (margin : Float) (p m : ℕ) (l : Listing) → self_crossings v margin p m ≡ answered l
    → ListedOf (self_pairs margin v false) normalized_unless_short l

-- ---- room for a listing

-- a buffer of floats and one of bytes that hold so many points and marks
abbrev pub Holds : ℕ → ℕ → ℕ → Type 0
Holds n floats bytes = (3 * n ≤ floats) × (n ≤ bytes)

-- Whoever counts first, and lends that room, is not refused by 7, nor by anything else: the listing answers.
abbrev pub CountedRoomEnough : Type 0
CountedRoomEnough =
    (a : List Float) (a_closed : Bool) (b : List Float) (b_closed : Bool) (margin : Float) (p m : ℕ) (c : Counts)
    → counted a a_closed b b_closed margin ≡ answered c → Holds (room_for c) p m
    → crossings a a_closed b b_closed margin p m ≡ answered (listing_of (visited margin a a_closed b b_closed))

-- The same of a string with itself: what is counted is the string, open, with itself, and the pairs of the self listing are among those.
abbrev pub SelfRoomEnough : Type 0
SelfRoomEnough =
    (v : List Float) (margin : Float) (p m : ℕ) (c : Counts) → counted v false v false margin ≡ answered c → Holds (room_for c) p m
    → self_crossings v margin p m ≡ answered (normalized_listing (listing_of (self_pairs margin v false)))

-- One leg with a string keeps at most a point for each leg of the string.
abbrev pub LegRoomEnough : Type 0
LegRoomEnough =
    (arc : Leg) (v : List Float) (closed : Bool) (margin : Float) (p m : ℕ) → leg_check arc ≡ 0 → stored_check v ≡ 0 → margin_check margin ≡ 0
    → Holds (legs_in v closed) p m
    → leg_crossings arc v closed margin p m ≡ answered (listing_of (leg_pairs margin arc v closed))

-- ---- a long track in runs

abbrev pub add_counts : Counts → Counts → Counts
add_counts c d =
    record { clean = c.clean + d.clean; end = c.end + d.end; grazing = c.grazing + d.grazing; apart = c.apart + d.apart }

-- A track too long for one call is handed over in runs, each from the last vertex of the one before. The counts of the runs add up to those of the whole,
-- with any legs: here of two runs, and so of any number, one after another.
abbrev pub RunsAddUp : Type 0
RunsAddUp =
    (margin : Float) (ps : List SphericalPoint) (x : SphericalPoint) (qs : List SphericalPoint) (ls : List Leg)
    → counts_of (pairs_between margin (legs (ps ++ (x ∷ qs)) false) ls)
    ≡ add_counts (counts_of (pairs_between margin (legs (ps ++ (x ∷ [])) false) ls)) (counts_of (pairs_between margin (legs (x ∷ qs) false) ls))
