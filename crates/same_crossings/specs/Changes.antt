-- Demand 3: the counts are the numbers of visited pairs in each class, and they and the clean points are the same after any list of changes, at every margin,
-- one being used throughout. What is claimed, over the very definitions that the calls' contracts cite: one record for two strings, `Demand3`, and one for a
-- string with itself, `Demand3Self`. Definitions only. The proofs are `demand_3` and `demand_3_self` of `proofs/Demand3.antt`.
use Rattle.std.specs.Prelude.{◌≡◌, Bool, ℕ, Float}
use mathlib.Core.List.{List, [], ◌∷◌, map, Permᴰ}
use Rattle.ieee754.specs.Value.{Value, value}
use Rattle.sphericalpoint.specs.declared.SphericalPoint.{SphericalPoint}
use Rattle.arcstring_check.specs.Answer.{Answer, refused, answered}
use Rattle.arcstring.specs.declared.inner.vertex.Vertex.{Vertex}
use Rattle.arcstring.specs.Points.{places_of, buoys_of, flat}
use Rattle.arcstring_check.specs.Check.{stored_check, margin_check}
use Rattle.arcstring_walk.specs.Walk.{walk_back, restart}
use Rattle.arcstring_pair.specs.declared.pair.Pair.{Pair}
use Rattle.arcstring_tally.specs.declared.counts.Counts.{Counts}
use Rattle.arcstring_tally.specs.Pairs.{counts_of, clean_points}
use Rattle.arcstring_listing.specs.Listing.{Listing, visited, counted, crossings}
use Rattle.arcstring_self.specs.SelfListing.{self_crossings}
use Rattle.same_crossings.specs.CountLaws.{CountsAddUp, ListingAgrees, ListingAddsUp, ListingOfPairs, SelfListingAddsUp, SelfListingOfPairs}

-- ---- strings as they are handed in

pub record Held : Type 0 where
  pub vertices : List Float
  pub buoys : List ℕ
  pub near : List Float
  pub closed : Bool

pub record TwoStrings : Type 0 where
  pub first : Held
  pub second : Held

pub record Accepted (s : Held) : Type 0 where
  pub vertices_accepted : stored_check s.vertices ≡ 0
  pub near_accepted : stored_check s.near ≡ 0

-- ---- changes

-- The strings trade places; or one of them is walked backwards, or restarted at a position, into output lists of so many floats and so many numbers.
pub data Which : Type 0 where
  the_first the_second : Which

pub data Change : Type 0 where
  trade : Change
  backwards : Which → ℕ → ℕ → Change
  restart_at : Which → ℕ → ℕ → ℕ → Change

-- other vertices and numbers in the place of the string's: flag and near list stay
abbrev pub with_vertices : Held → List Vertex → Held
with_vertices s vs = record { vertices = flat (places_of vs); buoys = buoys_of vs; near = s.near; closed = s.closed }

-- what a walk or a restart wrote takes their place; a refused one leaves the string as it was
abbrev pub replaced : Held → Answer (List Vertex) → Held
replaced s (refused n) = s
replaced s (answered vs) = with_vertices s vs

abbrev pub walked_back : ℕ → ℕ → Held → Held
walked_back room buoy_room s = replaced s (walk_back s.vertices s.buoys room buoy_room)

abbrev pub restarted_at : ℕ → ℕ → ℕ → Held → Held
restarted_at k room buoy_room s = replaced s (restart s.vertices s.buoys s.closed k room buoy_room)

abbrev pub change_one : Which → (Held → Held) → TwoStrings → TwoStrings
change_one the_first f t = record { first = f t.first; second = t.second }
change_one the_second f t = record { first = t.first; second = f t.second }

abbrev pub change : Change → TwoStrings → TwoStrings
change trade t = record { first = t.second; second = t.first }
change (backwards w room buoy_room) t = change_one w (walked_back room buoy_room) t
change (restart_at w k room buoy_room) t = change_one w (restarted_at k room buoy_room) t

-- after all changes of a list, in sequence
unfoldable pub changes : List Change → TwoStrings → TwoStrings
changes [] t = t
changes (c ∷ cs) t = changes cs (change c t)

-- ---- what stays the same

-- a point by value: +0 and -0 agree
pub record PointValue : Type 0 where
  pub x : Value
  pub y : Value
  pub z : Value

abbrev pub point_value : SphericalPoint → PointValue
point_value p = record { x = value p.x; y = value p.y; z = value p.z }

-- two listings have the same clean points in value, each as often
abbrev pub SameCleanPoints : Listing → Listing → Type 0
SameCleanPoints l m = Permᴰ (map point_value (clean_points l.marks)) (map point_value (clean_points m.marks))

abbrev pub counts_of_two : Float → TwoStrings → Answer Counts
counts_of_two margin t = counted t.first.vertices t.first.closed t.second.vertices t.second.closed margin

-- the listing of two strings into buffers of so many floats and bytes
abbrev pub listing_of_two : Float → TwoStrings → ℕ → ℕ → Answer Listing
listing_of_two margin t = crossings t.first.vertices t.first.closed t.second.vertices t.second.closed margin

-- At one margin the counting call gives the same counts; and where both listings have room, their counts and their clean points are the same. Where the margin
-- is refused, it is so of both.
pub record SameCrossings (margin : Float) (t u : TwoStrings) : Type 0 where
  pub same_counts : counts_of_two margin t ≡ counts_of_two margin u
  pub same_listing : (p m q n : ℕ) (l k : Listing) → listing_of_two margin t p m ≡ answered l → listing_of_two margin u q n ≡ answered k
      → (l.counts ≡ k.counts) × SameCleanPoints l k

-- the pairs that the calls visit
abbrev pub visited_of_two : Float → TwoStrings → List Pair
visited_of_two margin t = visited margin t.first.vertices t.first.closed t.second.vertices t.second.closed

-- All of demand 3 for two strings, at every margin.
pub record Demand3 : Type 0 where
  -- accepted strings are counted, and the counts are the numbers of visited pairs in each class
  pub counts_are : (margin : Float) → margin_check margin ≡ 0 → (t : TwoStrings) → Accepted t.first → Accepted t.second
      → counts_of_two margin t ≡ answered (counts_of (visited_of_two margin t))
  -- they add up to legs times legs
  pub counts_add_up : CountsAddUp
  -- a listing has the counts of the counting call, so that they add up too, and its clean points are those of the clean pairs, one for each
  pub listing_agrees : ListingAgrees
  pub listing_adds_up : ListingAddsUp
  pub listing_of_pairs : ListingOfPairs
  -- for all accepted strings and every list of changes all of this stays
  pub stay : (margin : Float) (t : TwoStrings) → Accepted t.first → Accepted t.second → (cs : List Change) → SameCrossings margin t (changes cs t)

-- ---- a string against itself: backward walks alone

unfoldable pub walks_back : List (ℕ × ℕ) → Held → Held
walks_back [] s = s
walks_back (r ∷ rooms) s = walks_back rooms (walked_back r.0 r.1 s)

pub record SameSelfCrossings (margin : Float) (s u : Held) : Type 0 where
  pub same_self : (p m q n : ℕ) (l k : Listing) → self_crossings s.vertices margin p m ≡ answered l → self_crossings u.vertices margin q n ≡ answered k
      → (l.counts ≡ k.counts) × SameCleanPoints l k

-- All of demand 3 for a string with itself, at every margin.
pub record Demand3Self : Type 0 where
  -- the counts add up to half of (n - 2) * (n - 3), they are the numbers of visited pairs in each class, and the clean points are those of the clean pairs,
  -- normalised, one for each
  pub adds_up : SelfListingAddsUp
  pub of_pairs : SelfListingOfPairs
  -- for every accepted string and every list of backward walks all of this stays
  pub stay : (margin : Float) (s : Held) → Accepted s → (rooms : List (ℕ × ℕ)) → SameSelfCrossings margin s (walks_back rooms s)
