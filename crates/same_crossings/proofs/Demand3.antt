-- Demand 3: for all accepted strings and every list of changes the four counts and the clean points stay the same; and for a string with itself after every
-- list of backward walks. Both are stated in `specs/Changes.antt`. Assumes nothing.
use mathlib.Core.Path.{◌≡◌, refl, sym, ap, ◌∙◌}
use mathlib.Core.Bool.{false}
use mathlib.Core.List.Permᴰ
use mathlib.Core.List.{List, [], ◌∷◌, reverse, Permᴰ}
use Prim.Native.Nat.{ℕ, zero, suc}
use lib.ListN.{length}
use lib.Ieee.{Float}
use Rattle.sphericalpoint.specs.declared.SphericalPoint.{SphericalPoint}
use Rattle.arcstring_check.specs.Answer.{answered, unless_refused}
use Rattle.arcstring.specs.declared.inner.vertex.Vertex.{Vertex}
use Rattle.arcstring.specs.Points.{numbered, places_of, points}
use Rattle.arcstring_check.specs.Check.{stored_check, margin_check, string_check, rooms_check, into_rooms, lent}
use Rattle.arcstring_walk.specs.Walk.{restarted, walk_back, restart}
use Rattle.arcstring_check.proofs.Answers.{pass}
use Rattle.arcstring.proofs.Flat.{points-flat}
use Rattle.arcstring_walk.proofs.WalksWithout.{back_places, restart_places}
use Rattle.arcstring_pair.specs.declared.pair.Pair.{Pair}
use Rattle.arcstring.specs.Leg.{Leg, legs}
use Rattle.arcstring_tally.specs.declared.counts.Counts.{Counts}
use Rattle.arcstring_tally.specs.Pairs.{pairs_between, pairs_within, counts_of, kept_marks, clean_points}
use Rattle.arcstring_listing.specs.Listing.{Listing, listing_of, visited, counted}
use Rattle.arcstring_self.specs.SelfListing.{normalized_listing, self_pairs}
use Rattle.same_crossings.specs.Changes.{Held, TwoStrings, Accepted, Which, the_first, the_second, Change, trade, backwards, restart_at, with_vertices}
use Rattle.same_crossings.specs.Changes.{replaced, walked_back, restarted_at, change_one, change, changes, SameCleanPoints, counts_of_two, SameCrossings}
use Rattle.same_crossings.specs.Changes.{Demand3, walks_back, SameSelfCrossings, Demand3Self}
use Rattle.same_crossings.proofs.LegLists.{open_backwards, legs_backwards, legs-restarted, restarted_order}
use Rattle.same_crossings.proofs.AcceptedAgain.{accepted_again}
use Rattle.same_crossings.proofs.SamePairs.{SamePairs, counts_same, clean_same, normalized_same, legs_in_order, legs_turned, strings_traded}
use Rattle.same_crossings.proofs.SamePairs.{within_backwards}
use Rattle.same_crossings.proofs.Counting.{crossings_is, self_crossings_is, counts_add_up, listing_agrees, listing_adds_up, listing_of_pairs}
use Rattle.same_crossings.proofs.Counting.{clean_normalized, self_listing_adds_up, self_listing_of_pairs}

-- ---- a string's vertices moved, or left where the move is refused

moved_or_left : (P : Held → Type 0) (s : Held) (vs : List Vertex) (room buoy_room : ℕ) → P s → (string_check s.vertices s.buoys ≡ 0 → P (with_vertices s vs))
    → P (replaced s (lent s.vertices s.buoys room buoy_room (answered vs)))
unfolding lent into_rooms
moved_or_left P s vs room buoy_room left move = go (string_check s.vertices s.buoys) (rooms_check (length vs) room buoy_room) move
  where
    go : (n m : ℕ) → (n ≡ 0 → P (with_vertices s vs)) → P (replaced s (unless_refused n (unless_refused m (answered vs))))
    go zero zero move = move refl
    go zero (suc m) move = left
    go (suc n) m move = left

abbrev legs_of : Held → List Leg
legs_of s = legs (points s.vertices) s.closed

-- the clean points of two listings of the same pairs
same_listed : (ps qs : List Pair) → SamePairs qs ps → (l k : Listing) → listing_of ps ≡ l → listing_of qs ≡ k → (l.counts ≡ k.counts) × SameCleanPoints l k
unfolding listing_of
same_listed ps qs d l k e g = rw (← e, ← g) (sym (counts_same qs ps d), Permᴰ.symm (clean_same qs ps d))

-- ---- at a margin

module _ (margin : Float) where
  -- accepted again, and the pairs with every list of legs are the same
  record KeptAs (s u : Held) : Type 0 where
    accepted : stored_check u.vertices ≡ 0
    pairs : (ms : List Leg) → SamePairs (pairs_between margin (legs_of u) ms) (pairs_between margin (legs_of s) ms)

  module _ (s : Held) (h : stored_check s.vertices ≡ 0) where
    -- the points of the vertices vs are ps
    moved_keeps : (vs : List Vertex) (ps : List SphericalPoint) (room buoy_room : ℕ)
        → (string_check s.vertices s.buoys ≡ 0 → places_of vs ≡ ps) → Permᴰ ps (points s.vertices)
        → ((ms : List Leg) → SamePairs (pairs_between margin (legs ps s.closed) ms) (pairs_between margin (legs_of s) ms))
        → KeptAs s (replaced s (lent s.vertices s.buoys room buoy_room (answered vs)))
    moved_keeps vs ps room buoy_room places d same =
        moved_or_left (KeptAs s) s vs room buoy_room (record { accepted = h; pairs = λ ms. Permᴰ.refl _ })
        (λ k. let e = places k in record { accepted = rw e (accepted_again ps s.vertices d h); pairs = λ ms. rw (e, points-flat ps) (same ms) })

    backwards_keeps : (room buoy_room : ℕ) → KeptAs s (walked_back room buoy_room s)
    unfolding walk_back
    backwards_keeps room buoy_room =
        let ps = points s.vertices in
        moved_keeps (reverse (numbered ps s.buoys)) (reverse ps) room buoy_room (back_places s.vertices s.buoys) (Permᴰ.reverse ps)
        (λ ms. legs_turned margin (legs (reverse ps) s.closed) (legs_of s) ms (legs_backwards ps s.closed))

    restart_keeps : (k room buoy_room : ℕ) → KeptAs s (restarted_at k room buoy_room s)
    unfolding restart
    restart_keeps k room buoy_room =
        let ps = points s.vertices in
        moved_keeps (restarted (numbered ps s.buoys) s.closed k) (restarted ps s.closed k) room buoy_room
        (λ a. restart_places s.vertices s.buoys a s.closed k) (restarted_order ps s.closed k)
        (λ ms. legs_in_order margin (legs (restarted ps s.closed k) s.closed) (legs_of s) ms (legs-restarted ps s.closed k))

  -- ---- two strings

  record BothAccepted (t : TwoStrings) : Type 0 where
    one : stored_check t.first.vertices ≡ 0
    two : stored_check t.second.vertices ≡ 0

  abbrev pairs_of : TwoStrings → List Pair
  pairs_of t = pairs_between margin (legs_of t.first) (legs_of t.second)

  record StillSame (t u : TwoStrings) : Type 0 where
    accepted : BothAccepted u
    pairs : SamePairs (pairs_of u) (pairs_of t)

  one_changed : (w : Which) (f : Held → Held) → ((s : Held) → stored_check s.vertices ≡ 0 → KeptAs s (f s)) → (t : TwoStrings) → BothAccepted t
      → StillSame t (change_one w f t)
  one_changed the_first f keeps t h =
      let k = keeps t.first h.one in
      record { accepted = record { one = k.accepted; two = h.two }; pairs = k.pairs (legs_of t.second) }
  one_changed the_second f keeps t h =
      let k = keeps t.second h.two in
      let ls = legs_of t.first in
      record {
        accepted = record { one = h.one; two = k.accepted };
        pairs = Permᴰ.trans (strings_traded margin (legs_of (f t.second)) ls)
            (Permᴰ.trans (k.pairs ls) (strings_traded margin ls (legs_of t.second)));
      }

  changed : (c : Change) (t : TwoStrings) → BothAccepted t → StillSame t (change c t)
  changed trade t h = record { accepted = record { one = h.two; two = h.one }; pairs = strings_traded margin (legs_of t.first) (legs_of t.second) }
  changed (backwards w room buoy_room) t h = one_changed w (walked_back room buoy_room) (λ s a. backwards_keeps s a room buoy_room) t h
  changed (restart_at w k room buoy_room) t h = one_changed w (restarted_at k room buoy_room) (λ s a. restart_keeps s a k room buoy_room) t h

  all_changed : (cs : List Change) (t : TwoStrings) → BothAccepted t → StillSame t (changes cs t)
  unfolding changes
  all_changed [] t h = record { accepted = h; pairs = Permᴰ.refl _ }
  all_changed (c ∷ cs) t h =
      let k = changed c t h in
      let r = all_changed cs (change c t) k.accepted in
      record { accepted = r.accepted; pairs = Permᴰ.trans r.pairs k.pairs }

  counts_answer : (t : TwoStrings) → BothAccepted t → counts_of_two margin t ≡ unless_refused (margin_check margin) (answered (counts_of (pairs_of t)))
  unfolding counted visited
  counts_answer t h = pass _ _ h.one ∙ pass _ _ h.two

  counted_alike : (t u : TwoStrings) → BothAccepted t → StillSame t u → counts_of_two margin t ≡ counts_of_two margin u
  counted_alike t u h r =
      counts_answer t h
      ∙ ap (λ (c : Counts). unless_refused (margin_check margin) (answered c)) (sym (counts_same (pairs_of u) (pairs_of t) r.pairs))
      ∙ sym (counts_answer u r.accepted)

  all_stay : (t : TwoStrings) → Accepted t.first → Accepted t.second → (cs : List Change) → SameCrossings margin t (changes cs t)
  unfolding visited
  all_stay t a b cs =
      let h : BothAccepted t = record { one = a.vertices_accepted; two = b.vertices_accepted } in
      let r = all_changed cs t h in
      let u = changes cs t in
      record {
        same_counts = counted_alike t u h r;
        same_listing = λ p m q n l k e g. same_listed (pairs_of t) (pairs_of u) r.pairs l k
            (crossings_is t.first.vertices t.first.closed t.second.vertices t.second.closed margin p m l e).3
            (crossings_is u.first.vertices u.first.closed u.second.vertices u.second.closed margin q n k g).3;
      }

  -- a string with itself
  abbrev own_pairs : Held → List Pair
  own_pairs s = pairs_within margin (legs (points s.vertices) false)

  record StillItself (s u : Held) : Type 0 where
    accepted : stored_check u.vertices ≡ 0
    pairs : SamePairs (own_pairs u) (own_pairs s)

  back_itself : (s : Held) (room buoy_room : ℕ) → stored_check s.vertices ≡ 0 → StillItself s (walked_back room buoy_room s)
  unfolding walk_back
  back_itself s room buoy_room h =
      let ps = points s.vertices in
      moved_or_left (StillItself s) s (reverse (numbered ps s.buoys)) room buoy_room (record { accepted = h; pairs = Permᴰ.refl _ })
      (λ k. let e = back_places s.vertices s.buoys k in record {
        accepted = rw e (accepted_again (reverse ps) s.vertices (Permᴰ.reverse ps) h);
        pairs = rw (e, points-flat (reverse ps), open_backwards ps) (within_backwards margin (legs ps false));
      })

  all_back : (rooms : List (ℕ × ℕ)) (s : Held) → stored_check s.vertices ≡ 0 → StillItself s (walks_back rooms s)
  unfolding walks_back
  all_back [] s h = record { accepted = h; pairs = Permᴰ.refl _ }
  all_back (r ∷ rooms) s h =
      let k = back_itself s r.0 r.1 h in
      let t = all_back rooms (walked_back r.0 r.1 s) k.accepted in
      record { accepted = t.accepted; pairs = Permᴰ.trans t.pairs k.pairs }

  same_own : (s u : Held) → SamePairs (own_pairs u) (own_pairs s) → (l k : Listing) → normalized_listing (listing_of (own_pairs s)) ≡ l
      → normalized_listing (listing_of (own_pairs u)) ≡ k → (l.counts ≡ k.counts) × SameCleanPoints l k
  unfolding normalized_listing listing_of
  same_own s u d l k e g =
      rw (← e, ← g, clean_normalized (kept_marks (own_pairs s)), clean_normalized (kept_marks (own_pairs u))) (
        sym (counts_same (own_pairs u) (own_pairs s) d),
        normalized_same (clean_points (kept_marks (own_pairs s))) (clean_points (kept_marks (own_pairs u)))
            (Permᴰ.symm (clean_same (own_pairs u) (own_pairs s) d)),
      )

  own_stay : (s : Held) → Accepted s → (rooms : List (ℕ × ℕ)) → SameSelfCrossings margin s (walks_back rooms s)
  unfolding self_pairs
  own_stay s a rooms =
      let r = all_back rooms s a.vertices_accepted in
      let u = walks_back rooms s in
      record {
        same_self =
            λ p m q n l k e g. same_own s u r.pairs l k (self_crossings_is s.vertices margin p m l e) (self_crossings_is u.vertices margin q n k g);
      }

-- ---- the theorems

pub demand_3 : Demand3
unfolding visited
demand_3 =
    record {
      counts_are = λ margin k t a b. counts_answer margin t (record { one = a.vertices_accepted; two = b.vertices_accepted }) ∙ pass _ _ k;
      counts_add_up = counts_add_up;
      listing_agrees = listing_agrees;
      listing_adds_up = listing_adds_up;
      listing_of_pairs = listing_of_pairs;
      stay = all_stay;
    }

pub demand_3_self : Demand3Self
demand_3_self = record { adds_up = self_listing_adds_up; of_pairs = self_listing_of_pairs; stay = own_stay }
