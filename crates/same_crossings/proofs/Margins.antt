-- Calls on the same strings at two margins: the listings write the same points, and a wider margin makes pairs grazing and does nothing else to them, as
-- `specs/MarginLaws.antt` has it. Assumes nothing.
use mathlib.Core.Path.{◌≡◌, refl, sym, ap, ap₂, ◌∙◌}
use mathlib.Core.Logic.{◌⊎◌, inl, inr}
use mathlib.Core.Bool.{Bool, true, false}
use mathlib.Core.List.{List, [], ◌∷◌, ◌++◌, map, filter_map, map-map}
use mathlib.Core.Option.{Option, none, Option-elim}
use Prim.Native.Nat.{ℕ, zero, suc, ◌*◌, ◌≤◌}
use native.Mathlib.Omega.{arith}
use lib.ListN.{length, drop, length-map}
use lib.Dec.{eqb}
use lib.Ieee.{Float}
use Rattle.sphericalpoint.specs.declared.SphericalPoint.{SphericalPoint}
use Rattle.sphericalpoint.specs.Point.{normalized_unless_short}
use Rattle.arcstring_check.specs.Answer.{Answer, answered, unless_refused, flag_number, pick}
use Rattle.arcstring_check.specs.Check.{stored_check, margin_check, room_check}
use Rattle.arcstring_check.proofs.Answers.{pass}
use Rattle.arcstring.specs.Points.{points, flat}
use Rattle.arcstring.specs.Leg.{Leg, leg_check, legs}
use Rattle.arcstring_pair.specs.declared.pair.Pair.{Pair}
use Rattle.arcstring_pair.specs.declared.pair.Pair.TheVariants.{Clean, End, Grazing, Apart}
use Rattle.arcstring_pair.specs.declared.pair.Outcome.TheVariants.{Kept, Dropped, None}
use Rattle.arcstring_pair.specs.Pair.{pair_of, class_number, judged, kept_point}
use Rattle.arcstring_pair.proofs.MarginLaws.{point_stays, wider_margin}
use Rattle.arcstring_tally.specs.declared.counts.Counts.{Counts}
use Rattle.arcstring_tally.specs.Pairs.{pairs_between, pairs_within, of_class, one_clean, one_end, one_grazing, one_apart, total, counts_of}
use Rattle.arcstring_tally.specs.Pairs.{Mark, kept_marks, mark_point}
use Rattle.arcstring_listing.specs.Listing.{Listing, listing_of, in_room, visited, crossings, leg_pairs, leg_crossings, listed_floats}
use Rattle.arcstring_self.specs.SelfListing.{normalized_listing, self_pairs, self_crossings}
use Rattle.same_crossings.specs.MarginLaws.{ListedPointsStay, Wider, WiderMarginWidens}
use Rattle.same_crossings.proofs.Counting.{counted_is, leg_crossings_is, self_crossings_is, normalized_mark}

-- ---- lists of pairs, one by one in a relation

data Each (R : Pair → Pair → Type 0) : List Pair → List Pair → Type 0 where
  no_pairs : Each R [] []
  one_pair : {p q : Pair} {ps qs : List Pair} → R p q → Each R ps qs → Each R (p ∷ ps) (q ∷ qs)

-- as the pairs of the same legs are at two margins, where that is so of any two legs
module _ (R : Pair → Pair → Type 0) (m n : Float) (of-legs : (a b : Leg) → R (pair_of m a b) (pair_of n a b)) where
  each_row : (a : Leg) (bs : List Leg) → Each R (map (pair_of m a) bs) (map (pair_of n a) bs)
  each_row a [] = no_pairs
  each_row a (b ∷ bs) = one_pair (of-legs a b) (each_row a bs)

  each_on : {ps qs ps' qs' : List Pair} → Each R ps qs → Each R ps' qs' → Each R (ps ++ ps') (qs ++ qs')
  each_on no_pairs rest = rest
  each_on (one_pair r e) rest = one_pair r (each_on e rest)

  each_between : (ls bs : List Leg) → Each R (pairs_between m ls bs) (pairs_between n ls bs)
  unfolding pairs_between
  each_between [] bs = no_pairs
  each_between (a ∷ ls) bs = each_on (each_row a bs) (each_between ls bs)

  each_within : (ls : List Leg) → Each R (pairs_within m ls) (pairs_within n ls)
  unfolding pairs_within
  each_within [] = no_pairs
  each_within (a ∷ ls) = each_on (each_row a (drop 1 ls)) (each_within ls)

-- ---- the points

abbrev kept_of : Pair → Option SphericalPoint
kept_of p = kept_point (judged p)

abbrev SameKept : Pair → Pair → Type 0
SameKept p q = kept_of p ≡ kept_of q

same_kept : (m n : Float) → margin_check m ≡ 0 → margin_check n ≡ 0 → (a b : Leg) → SameKept (pair_of m a b) (pair_of n a b)
same_kept m n h k a b =
    let s = point_stays m n h k a b in ap₂ (λ (kept : Bool) (p : Option SphericalPoint). pick kept p none) s.same_kept s.same_point

-- the kept points, without their marks
points_of_lem : (ps : List Pair) → map mark_point (kept_marks ps) ≡ filter_map kept_of ps
unfolding kept_marks filter_map
points_of_lem [] = refl
points_of_lem (Clean p ∷ ps) = ap (λ (l : List SphericalPoint). p ∷ l) (points_of_lem ps)
points_of_lem (End p ∷ ps) = points_of_lem ps
points_of_lem (Grazing (Kept p) ∷ ps) = ap (λ (l : List SphericalPoint). p ∷ l) (points_of_lem ps)
points_of_lem (Grazing (Dropped p) ∷ ps) = points_of_lem ps
points_of_lem (Grazing None ∷ ps) = points_of_lem ps
points_of_lem (Apart ∷ ps) = points_of_lem ps

all_kept : {ps qs : List Pair} → Each SameKept ps qs → filter_map kept_of ps ≡ filter_map kept_of qs
unfolding filter_map
all_kept no_pairs = refl
all_kept (one_pair r e) = ap₂ (λ (x : Option SphericalPoint) (l : List SphericalPoint). Option-elim x l (λ p. p ∷ l)) r (all_kept e)

same_points : (ps qs : List Pair) → Each SameKept ps qs → map mark_point (kept_marks ps) ≡ map mark_point (kept_marks qs)
same_points ps qs e = points_of_lem ps ∙ all_kept e ∙ sym (points_of_lem qs)

-- what a listing writes, and whether it has room, is told by its points alone
floats_of : (l : Listing) (p q : ℕ) → listed_floats (in_room l p q)
    ≡ unless_refused (room_check (3 * length (map mark_point l.marks)) p)
    (unless_refused (room_check (length (map mark_point l.marks)) q) (answered (flat (map mark_point l.marks))))
unfolding in_room
floats_of l p q =
    let ms = l.marks in
    let few : length ms ≡ length (map mark_point ms) = sym (length-map ms mark_point) in
    go (room_check (3 * length ms) p) (room_check (length ms) q)
    ∙ ap (λ (k : ℕ). unless_refused (room_check (3 * k) p) (unless_refused (room_check k q) (answered (flat (map mark_point ms))))) few
  where
    go : (j k : ℕ) → listed_floats (unless_refused j (unless_refused k (answered l)))
        ≡ unless_refused j (unless_refused k (answered (flat (map mark_point l.marks))))
    go zero zero = refl
    go zero (suc k) = refl
    go (suc j) k = refl

same-floats : (l k : Listing) (p q : ℕ) → map mark_point l.marks ≡ map mark_point k.marks → listed_floats (in_room l p q) ≡ listed_floats (in_room k p q)
same-floats l k p q h =
    floats_of l p q
    ∙ ap (λ (ps : List SphericalPoint). unless_refused (room_check (3 * length ps) p) (unless_refused (room_check (length ps) q) (answered (flat ps)))) h
    ∙ sym (floats_of k p q)

-- behind the same checks, and two margins that pass
behind : (c d j k : ℕ) (x y : Answer Listing) → j ≡ 0 → k ≡ 0 → listed_floats x ≡ listed_floats y
    → listed_floats (unless_refused c (unless_refused d (unless_refused j x))) ≡ listed_floats (unless_refused c (unless_refused d (unless_refused k y)))
behind c d j k x y hj hk h =
    ap (λ (z : Answer Listing). listed_floats (unless_refused c (unless_refused d z))) (pass j x hj)
    ∙ go c d
    ∙ ap (λ (z : Answer Listing). listed_floats (unless_refused c (unless_refused d z))) (sym (pass k y hk))
  where
    go : (c d : ℕ) → listed_floats (unless_refused c (unless_refused d x)) ≡ listed_floats (unless_refused c (unless_refused d y))
    go zero zero = h
    go zero (suc d) = refl
    go (suc c) d = refl

normalized-points : (ms : List Mark) → map mark_point (map normalized_mark ms) ≡ map normalized_unless_short (map mark_point ms)
normalized-points ms = map-map mark_point normalized_mark ms ∙ sym (map-map normalized_unless_short mark_point ms)

pub listed_points_stay : ListedPointsStay
unfolding crossings leg_crossings self_crossings visited leg_pairs self_pairs normalized_listing listing_of
listed_points_stay m n h k =
    let kept = same_kept m n h k in
    record {
      of_two = λ a a_closed b b_closed p q.
          let ls = legs (points a) a_closed in
          let bs = legs (points b) b_closed in
          behind (stored_check a) (stored_check b) _ _ _ _ h k
          (same-floats (listing_of (pairs_between m ls bs)) (listing_of (pairs_between n ls bs)) p q (same_points _ _ (each_between SameKept m n kept ls bs)));
      of_leg = λ arc v closed p q.
          let bs = legs (points v) closed in
          behind (leg_check arc) (stored_check v) _ _ _ _ h k
          (same-floats (listing_of (map (pair_of m arc) bs)) (listing_of (map (pair_of n arc) bs)) p q (same_points _ _ (each_row SameKept m n kept arc bs)));
      of_self = λ v p q.
          let ls = legs (points v) false in
          behind 0 (stored_check v) _ _ _ _ h k
          (same-floats (normalized_listing (listing_of (pairs_within m ls))) (normalized_listing (listing_of (pairs_within n ls))) p q
          (normalized-points (kept_marks (pairs_within m ls))
          ∙ ap (map normalized_unless_short) (same_points _ _ (each_within SameKept m n kept ls))
          ∙ sym (normalized-points (kept_marks (pairs_within n ls)))));
    }

-- ---- the counts

-- q is p at a wider margin
abbrev Widened : Pair → Pair → Type 0
Widened p q = ((judged q).class ≡ 3) ⊎ (q ≡ p)

abbrev Narrowed : Pair → Pair → Type 0
Narrowed p q = Widened q p

turned_round : {ps qs : List Pair} → Each Widened ps qs → Each Narrowed qs ps
turned_round no_pairs = no_pairs
turned_round (one_pair r e) = one_pair r (turned_round e)

total_grows : (f : Pair → ℕ) (R : Pair → Pair → Type 0) → ((p q : Pair) → R p q → f p ≤ f q) → {ps qs : List Pair} → Each R ps qs → total f ps ≤ total f qs
unfolding total
total_grows f R grows no_pairs = omega arith
total_grows f R grows (one_pair {p} {q} r e) = omega (arith, grows p q r, total_grows f R grows e)

at_most_one : (b : Bool) → flag_number b ≤ 1
at_most_one true = omega arith
at_most_one false = omega arith

more_grazing : (p q : Pair) → Widened p q → one_grazing p ≤ one_grazing q
more_grazing p q (inl e) = omega (arith, at_most_one (eqb (class_number p) 3), ap (λ (c : ℕ). flag_number (eqb c 3)) e)
more_grazing p q (inr e) = omega (arith, ap one_grazing e)

-- of another class than grazing
fewer_of : (c : ℕ) → flag_number (eqb 3 c) ≡ 0 → (p q : Pair) → Narrowed p q → of_class c p ≤ of_class c q
fewer_of c other p q (inl e) = omega (arith, other, ap (λ (k : ℕ). flag_number (eqb k c)) e)
fewer_of c other p q (inr e) = omega (arith, ap (of_class c) e)

widened : {ps qs : List Pair} → Each Widened ps qs → Wider (counts_of ps) (counts_of qs)
unfolding counts_of
widened e =
    record {
      more_grazing = total_grows one_grazing Widened more_grazing e;
      fewer_clean = total_grows one_clean Narrowed (fewer_of 1 refl) (turned_round e);
      fewer_end = total_grows one_end Narrowed (fewer_of 2 refl) (turned_round e);
      fewer_apart = total_grows one_apart Narrowed (fewer_of 4 refl) (turned_round e);
    }

-- of what a call answers
widened_as : (c c' d d' : Counts) → c ≡ c' → d ≡ d' → Wider c d → Wider c' d'
widened_as c c' d d' h k w = rw (h, k) at w

listed_as : (x l y k : Listing) → x ≡ l → y ≡ k → Wider x.counts y.counts → Wider l.counts k.counts
listed_as x l y k h g w = widened_as x.counts l.counts y.counts k.counts (ap (λ (z : Listing). z.counts) h) (ap (λ (z : Listing). z.counts) g) w

pub wider_margin_widens : WiderMarginWidens
unfolding visited leg_pairs self_pairs normalized_listing listing_of
wider_margin_widens m n h =
    let wide = wider_margin m n h in
    record {
      of_two = λ a a_closed b b_closed c d hc hd. widened_as _ _ _ _ (counted_is a a_closed b b_closed m c hc).3 (counted_is a a_closed b b_closed n d hd).3
          (widened (each_between Widened m n wide (legs (points a) a_closed) (legs (points b) b_closed)));
      of_leg = λ arc v closed p q r s l k hl hk. listed_as _ l _ k (leg_crossings_is arc v closed m p q l hl) (leg_crossings_is arc v closed n r s k hk)
          (widened (each_row Widened m n wide arc (legs (points v) closed)));
      of_self = λ v p q r s l k hl hk. listed_as _ l _ k (self_crossings_is v m p q l hl) (self_crossings_is v n r s k hk)
          (widened (each_within Widened m n wide (legs (points v) false)));
    }
