-- The four counts add up to the number of visited pairs: legs times legs for two strings, half of (n - 2) * (n - 3) for a string of n vertices with itself.
-- The listing gives the counts of the counting call. The clean points of a listing are the points of its clean pairs, in sequence, one for each. And it
-- keeps no more points than there are clean and grazing pairs. Stated in `specs/CountLaws.antt`. Assumes nothing.
use mathlib.Core.Path.{◌≡◌, refl, sym, ap, ap₂, subst, ◌∙◌}
use mathlib.Core.Bool.{Bool, true, false}
use mathlib.Core.List.{List, [], ◌∷◌, map, map-id, filter_map}
use mathlib.Core.Option.{none, some, Option-elim}
use Prim.Native.Nat.{ℕ, zero, suc, ◌+◌, ◌-◌, ◌*◌, ◌≤◌}
use native.Mathlib.Omega.{arith}
use lib.ListN.{length, length-map}
use lib.Dec.{eqb}
use lib.Ieee.{Float}
use Rattle.sphericalpoint.specs.declared.SphericalPoint.{SphericalPoint}
use Rattle.sphericalpoint.specs.Point.{normalized_unless_short}
use Rattle.arcstring_check.specs.Answer.{answered, unless_refused, pick}
use Rattle.arcstring.specs.Points.{itself, points}
use Rattle.arcstring_check.specs.Check.{stored_check, margin_check, room_check}
use Rattle.arcstring_check.proofs.Answers.{pass, both_passed, all_passed}
use Rattle.arcstring.proofs.Flat.{count_points}
use Rattle.arcstring_pair.specs.declared.pair.Pair.{Pair}
use Rattle.arcstring_pair.specs.declared.pair.Pair.TheVariants.{Clean, End, Grazing, Apart}
use Rattle.arcstring_pair.specs.declared.pair.Outcome.TheVariants.{Kept, Dropped, None}
use Rattle.arcstring.specs.Leg.{Leg, leg_check, legs, leg_count}
use Rattle.arcstring_pair.specs.Pair.{pair_of}
use Rattle.arcstring.proofs.Legs.{length-legs, length_open_legs}
use Rattle.arcstring_tally.specs.declared.counts.Counts.{Counts}
use Rattle.arcstring_tally.specs.Pairs.{pairs_between, pairs_within, one_clean, one_grazing, total, counts_of, Mark, kept_marks, clean_points}
use Rattle.arcstring_listing.specs.Listing.{Listing, listing_of, in_room, visited, counted, crossings, leg_pairs, leg_crossings}
use Rattle.arcstring_self.specs.SelfListing.{normalized_listing, self_pairs, self_crossings}
use Rattle.arcstring_visit.proofs.Rows.{length_between, length_self}
use Rattle.arcstring_tally.proofs.Tallies.{all_classes}
use Rattle.same_crossings.specs.CountLaws.{sum_of_counts, legs_in, CountsAddUp, ListingAgrees, ListingAddsUp, LegListingAddsUp, SelfListingAddsUp}
use Rattle.same_crossings.specs.CountLaws.{point_of_clean, ListedOf, ListingOfPairs, LegListingOfPairs, SelfListingOfPairs}

-- ---- the counts of any list of pairs

pub counts_sum : (ps : List Pair) → sum_of_counts (counts_of ps) ≡ length ps
unfolding counts_of
counts_sum ps = all_classes ps

-- ---- two strings

pub legs-length : (ps : List SphericalPoint) (closed : Bool) → length (legs ps closed) ≡ leg_count (length ps) closed
unfolding leg_count
legs-length ps true = length-legs ps
legs-length ps false = length_open_legs ps

pub legs_in_lem : (v : List Float) (closed : Bool) → length (legs (points v) closed) ≡ legs_in v closed
legs_in_lem v closed = legs-length (points v) closed ∙ ap (λ (n : ℕ). leg_count n closed) (count_points v)

-- ---- a string with itself

pub counts_sum-within : (margin : Float) (ps : List SphericalPoint)
    → sum_of_counts (counts_of (pairs_within margin (legs ps false))) * 2 ≡ (length ps - 2) * (length ps - 3)
counts_sum-within margin ps = ap (λ (m : ℕ). m * 2) (counts_sum (pairs_within margin (legs ps false))) ∙ length_self margin ps

-- ---- the clean points

pub clean_points_are_clean_pairs : (ps : List Pair) → clean_points (kept_marks ps) ≡ filter_map point_of_clean ps
unfolding clean_points kept_marks filter_map
clean_points_are_clean_pairs [] = refl
clean_points_are_clean_pairs (Clean p ∷ ps) = ap (λ (l : List SphericalPoint). p ∷ l) (clean_points_are_clean_pairs ps)
clean_points_are_clean_pairs (End p ∷ ps) = clean_points_are_clean_pairs ps
clean_points_are_clean_pairs (Grazing (Kept p) ∷ ps) = clean_points_are_clean_pairs ps
clean_points_are_clean_pairs (Grazing (Dropped p) ∷ ps) = clean_points_are_clean_pairs ps
clean_points_are_clean_pairs (Grazing None ∷ ps) = clean_points_are_clean_pairs ps
clean_points_are_clean_pairs (Apart ∷ ps) = clean_points_are_clean_pairs ps

clean_length : (ps : List Pair) → length (filter_map point_of_clean ps) ≡ total one_clean ps
unfolding filter_map total
clean_length [] = refl
clean_length (Clean p ∷ ps) = omega (arith, clean_length ps)
clean_length (End p ∷ ps) = omega (arith, clean_length ps)
clean_length (Grazing o ∷ ps) = omega (arith, clean_length ps)
clean_length (Apart ∷ ps) = omega (arith, clean_length ps)

pub as_many_clean_points : (ps : List Pair) → length (clean_points (kept_marks ps)) ≡ total one_clean ps
as_many_clean_points ps = ap length (clean_points_are_clean_pairs ps) ∙ clean_length ps

-- ---- how many points are kept

pub few_kept : (ps : List Pair) → length (kept_marks ps) ≤ total one_clean ps + total one_grazing ps
unfolding kept_marks filter_map total
few_kept [] = omega arith
few_kept (Clean p ∷ ps) = omega (arith, few_kept ps)
few_kept (End p ∷ ps) = omega (arith, few_kept ps)
few_kept (Grazing (Kept p) ∷ ps) = omega (arith, few_kept ps)
few_kept (Grazing (Dropped p) ∷ ps) = omega (arith, few_kept ps)
few_kept (Grazing None ∷ ps) = omega (arith, few_kept ps)
few_kept (Apart ∷ ps) = omega (arith, few_kept ps)

-- ---- what is answered where nothing refuses

-- a listing that has room, behind three checks
listed_is : (n k j : ℕ) (l m : Listing) (p q : ℕ) → unless_refused n (unless_refused k (unless_refused j (in_room l p q))) ≡ answered m
    → (n ≡ 0) × (k ≡ 0) × (j ≡ 0) × (l ≡ m)
unfolding in_room
listed_is zero zero zero l m p q h = (refl, refl, refl, (both_passed (room_check (3 * length l.marks) p) (room_check (length l.marks) q) l m h).2)
listed_is zero zero (suc j) l m p q h = absurd (let z : ◌≡◌ {A = ℕ} 0 1 = cc in omega arith)
listed_is zero (suc k) j l m p q h = absurd (let z : ◌≡◌ {A = ℕ} 0 1 = cc in omega arith)
listed_is (suc n) k j l m p q h = absurd (let z : ◌≡◌ {A = ℕ} 0 1 = cc in omega arith)

module _ (a : List Float) (a_closed : Bool) (b : List Float) (b_closed : Bool) (margin : Float) where
  pub counted_is : (c : Counts) → counted a a_closed b b_closed margin ≡ answered c
      → (stored_check a ≡ 0) × (stored_check b ≡ 0) × (margin_check margin ≡ 0) × (counts_of (visited margin a a_closed b b_closed) ≡ c)
  unfolding counted
  counted_is c h = all_passed (stored_check a) (stored_check b) (margin_check margin) (counts_of (visited margin a a_closed b b_closed)) c h

  pub crossings_is : (p m : ℕ) (l : Listing) → crossings a a_closed b b_closed margin p m ≡ answered l
      → (stored_check a ≡ 0) × (stored_check b ≡ 0) × (margin_check margin ≡ 0) × (listing_of (visited margin a a_closed b b_closed) ≡ l)
  unfolding crossings
  crossings_is p m l h = listed_is (stored_check a) (stored_check b) (margin_check margin) (listing_of (visited margin a a_closed b b_closed)) l p m h

pub leg_crossings_is : (arc : Leg) (v : List Float) (closed : Bool) (margin : Float) (p m : ℕ) (l : Listing)
    → leg_crossings arc v closed margin p m ≡ answered l → listing_of (leg_pairs margin arc v closed) ≡ l
unfolding leg_crossings
leg_crossings_is arc v closed margin p m l h =
    (listed_is (leg_check arc) (stored_check v) (margin_check margin) (listing_of (leg_pairs margin arc v closed)) l p m h).3

pub self_crossings_is : (v : List Float) (margin : Float) (p m : ℕ) (l : Listing) → self_crossings v margin p m ≡ answered l
    → normalized_listing (listing_of (self_pairs margin v false)) ≡ l
unfolding self_crossings
self_crossings_is v margin p m l h =
    (listed_is (stored_check v) (margin_check margin) 0 (normalized_listing (listing_of (self_pairs margin v false))) l p m h).3

-- ---- the sums

pub counts_add_up : CountsAddUp
unfolding visited
counts_add_up a a_closed b b_closed margin c h =
    let ls = legs (points a) a_closed in
    let ms = legs (points b) b_closed in
    ap sum_of_counts (sym (counted_is a a_closed b b_closed margin c h).3)
    ∙ counts_sum (pairs_between margin ls ms)
    ∙ length_between margin ls ms
    ∙ ap₂ ◌*◌ (legs_in_lem a a_closed) (legs_in_lem b b_closed)

pub listing_agrees : ListingAgrees
unfolding counted listing_of
listing_agrees a a_closed b b_closed margin p m l h =
    let is = crossings_is a a_closed b b_closed margin p m l h in
    pass _ _ is.0 ∙ pass _ _ is.1 ∙ pass _ _ is.2 ∙ ap (λ (x : Listing). answered x.counts) is.3

pub listing_adds_up : ListingAddsUp
listing_adds_up a a_closed b b_closed margin p m l h =
    counts_add_up a a_closed b b_closed margin l.counts (listing_agrees a a_closed b b_closed margin p m l h)

pub leg_listing_adds_up : LegListingAddsUp
unfolding listing_of leg_pairs
leg_listing_adds_up arc v closed margin p m l h =
    let ls = legs (points v) closed in
    ap (λ (x : Listing). sum_of_counts x.counts) (sym (leg_crossings_is arc v closed margin p m l h))
    ∙ counts_sum (map (pair_of margin arc) ls)
    ∙ length-map ls (pair_of margin arc)
    ∙ legs_in_lem v closed

pub self_listing_adds_up : SelfListingAddsUp
unfolding normalized_listing listing_of self_pairs
self_listing_adds_up v margin p m l h =
    ap (λ (x : Listing). sum_of_counts x.counts * 2) (sym (self_crossings_is v margin p m l h))
    ∙ counts_sum-within margin (points v)
    ∙ ap (λ (n : ℕ). (n - 2) * (n - 3)) (count_points v)

-- ---- listings of pairs

listed_of : (ps : List Pair) → ListedOf ps itself (listing_of ps)
unfolding listing_of counts_of
listed_of ps =
    record {
      counts_of_pairs = refl;
      clean_of_pairs = clean_points_are_clean_pairs ps ∙ sym (map-id (filter_map point_of_clean ps));
      as_many = as_many_clean_points ps;
      kept_at_most = few_kept ps;
    }

abbrev pub normalized_mark : Mark → Mark
normalized_mark m = record { point = normalized_unless_short m.point; byte = m.byte }

pub clean_normalized : (ms : List Mark) → clean_points (map normalized_mark ms) ≡ map normalized_unless_short (clean_points ms)
unfolding clean_points filter_map
clean_normalized [] = refl
clean_normalized (m ∷ ms) = go (eqb m.byte 1) _ (clean_points ms) (clean_normalized ms)
  where
    go : (b : Bool) (l k : List SphericalPoint) → l ≡ map normalized_unless_short k
        → Option-elim (pick b (some (normalized_unless_short m.point)) none) l (λ p. p ∷ l)
        ≡ map normalized_unless_short (Option-elim (pick b (some m.point) none) k (λ p. p ∷ k))
    go true l k e = ap (λ (r : List SphericalPoint). normalized_unless_short m.point ∷ r) e
    go false l k e = e

self_listed_of : (ps : List Pair) → ListedOf ps normalized_unless_short (normalized_listing (listing_of ps))
unfolding normalized_listing listing_of counts_of
self_listed_of ps =
    let points-are = clean_normalized (kept_marks ps) in
    record {
      counts_of_pairs = refl;
      clean_of_pairs = points-are ∙ ap (map normalized_unless_short) (clean_points_are_clean_pairs ps);
      as_many = ap length points-are ∙ length-map (clean_points (kept_marks ps)) normalized_unless_short ∙ as_many_clean_points ps;
      kept_at_most = subst (λ (n : ℕ). n ≤ total one_clean ps + total one_grazing ps) (sym (length-map (kept_marks ps) normalized_mark)) (few_kept ps);
    }

pub listing_of_pairs : ListingOfPairs
listing_of_pairs a a_closed b b_closed margin p m l h =
    let ps = visited margin a a_closed b b_closed in subst (ListedOf ps itself) (crossings_is a a_closed b b_closed margin p m l h).3 (listed_of ps)

pub leg-listing_of_pairs : LegListingOfPairs
leg-listing_of_pairs arc v closed margin p m l h =
    let ps = leg_pairs margin arc v closed in subst (ListedOf ps itself) (leg_crossings_is arc v closed margin p m l h) (listed_of ps)

pub self_listing_of_pairs : SelfListingOfPairs
self_listing_of_pairs v margin p m l h =
    let ps = self_pairs margin v false in subst (ListedOf ps normalized_unless_short) (self_crossings_is v margin p m l h) (self_listed_of ps)
