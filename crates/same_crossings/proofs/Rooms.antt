-- Room for a listing: a buffer for a point of every clean and every grazing pair is never too short, and counting first tells how many these are. Stated
-- in `specs/CountLaws.antt`. Assumes nothing.
use mathlib.Core.Path.{◌≡◌, subst, ◌∙◌}
use mathlib.Core.Bool.{false}
use mathlib.Core.List.{List, [], ◌∷◌, map}
use Prim.Native.Nat.{ℕ, ◌*◌, ◌≤◌}
use native.Mathlib.Omega.{arith}
use lib.ListN.{length, drop, length-map}
use lib.Ieee.{Float}
use Rattle.arcstring_check.specs.Answer.{answered}
use Rattle.arcstring_check.specs.Check.{stored_check, margin_check, room_check}
use Rattle.arcstring_check.proofs.Answers.{pass, all_passed}
use Rattle.arcstring_check.proofs.Rooms.{room_enough}
use Rattle.arcstring.specs.Points.{points}
use Rattle.arcstring.specs.Leg.{Leg, legs}
use Rattle.arcstring_pair.specs.declared.pair.Pair.{Pair}
use Rattle.arcstring_pair.specs.Pair.{pair_of}
use Rattle.arcstring_tally.specs.declared.counts.Counts.{Counts}
use Rattle.arcstring_tally.specs.Pairs.{pairs_between, pairs_within, one_clean, one_grazing, total, counts_of, kept_marks}
use Rattle.arcstring_tally.proofs.Tallies.{total-append, all_classes}
use Rattle.arcstring_listing.specs.Listing.{Listing, listing_of, in_room, visited, counted, crossings, leg_pairs, leg_crossings}
use Rattle.arcstring_self.specs.SelfListing.{normalized_listing, self_pairs, self_crossings}
use Rattle.same_crossings.specs.CountLaws.{legs_in, room_for, Holds, CountedRoomEnough, SelfRoomEnough, LegRoomEnough}
use Rattle.same_crossings.proofs.Counting.{legs_in_lem, few_kept, normalized_mark}

-- ---- a listing that has room

in_room_lem : (l : Listing) (n p m : ℕ) → length l.marks ≤ n → Holds n p m → in_room l p m ≡ answered l
unfolding in_room
in_room_lem l n p m few holds =
    let k = length l.marks in
    pass (room_check (3 * k) p) _ (room_enough (3 * k) p (omega (arith, few, holds.0)))
    ∙ pass (room_check k m) (answered l) (room_enough k m (omega (arith, few, holds.1)))

-- ---- two strings

pub counted_room_enough : CountedRoomEnough
unfolding counted crossings listing_of counts_of
counted_room_enough a a_closed b b_closed margin p m c h holds =
    let ps = visited margin a a_closed b b_closed in
    let passed = all_passed (stored_check a) (stored_check b) (margin_check margin) (counts_of ps) c h in
    let few : length (kept_marks ps) ≤ room_for c = subst (λ (x : Counts). length (kept_marks ps) ≤ room_for x) passed.3 (few_kept ps) in
    pass _ _ passed.0 ∙ pass _ _ passed.1 ∙ pass _ _ passed.2 ∙ in_room_lem (listing_of ps) (room_for c) p m few holds

-- ---- a leg and a string

pub leg_room_enough : LegRoomEnough
unfolding leg_crossings listing_of leg_pairs
leg_room_enough arc v closed margin p m leg-passes passes margin-passes holds =
    let ls = legs (points v) closed in
    let ps = map (pair_of margin arc) ls in
    let as_many : length ps ≡ legs_in v closed = length-map ls (pair_of margin arc) ∙ legs_in_lem v closed in
    let few : length (kept_marks ps) ≤ legs_in v closed = omega (arith, few_kept ps, all_classes ps, as_many) in
    pass _ _ leg-passes ∙ pass _ _ passes ∙ pass _ _ margin-passes ∙ in_room_lem (listing_of ps) (legs_in v closed) p m few holds

-- ---- a string with itself: its pairs are among those of the string with itself as with another

module _ (margin : Float) (g : Pair → ℕ) where
  total-drop : (a : Leg) (ls : List Leg) → total g (map (pair_of margin a) (drop 1 ls)) ≤ total g (map (pair_of margin a) ls)
  unfolding total
  total-drop a [] = omega arith
  total-drop a (l ∷ ls) = omega arith

  total_longer : (ls : List Leg) (b : Leg) (bs : List Leg) → total g (pairs_between margin ls bs) ≤ total g (pairs_between margin ls (b ∷ bs))
  unfolding pairs_between total
  total_longer [] b bs = omega arith
  total_longer (a ∷ ls) b bs =
      let shorter = total-append g (map (pair_of margin a) bs) (pairs_between margin ls bs) in
      let longer = total-append g (map (pair_of margin a) bs) (pairs_between margin ls (b ∷ bs)) in
      omega (arith, shorter, longer, total_longer ls b bs)

  total-within : (ls : List Leg) → total g (pairs_within margin ls) ≤ total g (pairs_between margin ls ls)
  unfolding pairs_within pairs_between total
  total-within [] = omega arith
  total-within (a ∷ ls) =
      let within = total-append g (map (pair_of margin a) (drop 1 ls)) (pairs_within margin ls) in
      let between = total-append g (map (pair_of margin a) ls) (pairs_between margin ls (a ∷ ls)) in
      omega (arith, within, between, total-drop a ls, total-within ls, total_longer ls a ls)

self_kept : (margin : Float) (v : List Float) → length (kept_marks (self_pairs margin v false)) ≤ room_for (counts_of (visited margin v false v false))
unfolding self_pairs visited counts_of
self_kept margin v =
    let ls = legs (points v) false in
    omega (arith, few_kept (pairs_within margin ls), total-within margin one_clean ls, total-within margin one_grazing ls)

pub self_room_enough : SelfRoomEnough
unfolding counted self_crossings normalized_listing listing_of
self_room_enough v margin p m c h holds =
    let ps = self_pairs margin v false in
    let passed = all_passed (stored_check v) (stored_check v) (margin_check margin) (counts_of (visited margin v false v false)) c h in
    let as_many : length (map normalized_mark (kept_marks ps)) ≡ length (kept_marks ps) = length-map (kept_marks ps) normalized_mark in
    let room : length (kept_marks ps) ≤ room_for c = subst (λ (x : Counts). length (kept_marks ps) ≤ room_for x) passed.3 (self_kept margin v) in
    pass _ _ passed.0 ∙ pass _ _ passed.2 ∙ in_room_lem (normalized_listing (listing_of ps)) (room_for c) p m (omega (arith, as_many, room)) holds
