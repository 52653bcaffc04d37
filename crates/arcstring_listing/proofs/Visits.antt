-- The pairs that the calls visit are those that the walks over the legs of accepted strings visit. Assumes nothing.
use mathlib.Core.Path.{◌≡◌, refl, ap, ap₂, ◌∙◌}
use mathlib.Core.Bool.{Bool, true, false, not, ◌&&◌}
use mathlib.Core.List.{List, [], ◌∷◌, map, append-nil}
use Prim.Native.Nat.{ℕ, ◌/◌, ◌*◌, ◌≤◌}
use native.Mathlib.Omega.{arith}
use lib.ListN.{length}
use lib.Ieee.{Float}
use Rattle.sphericalpoint.specs.declared.SphericalPoint.{SphericalPoint}
use Rattle.arcstring_check.specs.Answer.{number_if}
use Rattle.arcstring.specs.Points.{points, flat}
use Rattle.arcstring_check.specs.Check.{in_range, all_in_range, point_check, list_check, stored_check}
use Rattle.arcstring_check.proofs.Answers.{first_passes, second_passes}
use Rattle.arcstring_check.proofs.Checks.{stored_whole}
use Rattle.arcstring.specs.Leg.{Leg, leg_check, legs, legs_from, leg_count, leg_floats}
use Rattle.arcstring_pair.specs.Pair.{pair_of}
use Rattle.arcstring.proofs.Legs.{legs_whole}
use Rattle.arcstring_tally.specs.Pairs.{pairs_between, kept_marks}
use Rattle.arcstring_listing.specs.Listing.{visited, leg_pairs}
use Rattle.arcstring_visit.proofs.Rows.{kept_between}

pub all_legs : (v : List Float) (closed : Bool) (l : ℕ) → stored_check v ≡ 0 → l ≡ leg_count (length v / 3) closed → legs_from v 0 l ≡ legs (points v) closed
all_legs v closed l accepted count = ap (legs_from v 0) count ∙ legs_whole v (length v / 3) closed (stored_whole v accepted).triples

module _ (margin : Float) (a : List Float) (a_closed : Bool) (b : List Float) (b_closed : Bool) where
  pub two_visits : (ls rs : List Leg) → ls ≡ legs (points a) a_closed → rs ≡ legs (points b) b_closed → pairs_between margin ls rs
      ≡ visited margin a a_closed b b_closed
  unfolding visited
  two_visits ls rs h k = ap₂ (pairs_between margin) h k

  pub kept_two : (v : List Float) (la : ℕ) (w : List Float) (lb : ℕ) → legs_from v 0 la ≡ legs (points a) a_closed → legs_from w 0 lb ≡ legs (points b) b_closed
      → length (kept_marks (visited margin a a_closed b b_closed)) ≤ la * lb
  kept_two v la w lb h k = rw (← two_visits _ _ h k) (kept_between margin v w la lb)

-- the same strings by other names
pub visited_as : (margin : Float) (a c : List Float) (a_closed c_closed : Bool) (b d : List Float) (b_closed d_closed : Bool) → a ≡ c → a_closed ≡ c_closed
    → b ≡ d → b_closed ≡ d_closed → visited margin a a_closed b b_closed ≡ visited margin c c_closed d d_closed
visited_as margin a c a_closed c_closed b d b_closed d_closed h i j k = rw (h, i, j, k)

-- ---- a leg as a string of two vertices

in-range : (b : Bool) → number_if (not b) 4 ≡ 0 → b ≡ true
in-range true h = refl
in-range false h = absurd (omega arith)

six_in_range : (p q : SphericalPoint) → point_check p ≡ 0 → point_check q ≡ 0 → all_in_range (flat (p ∷ q ∷ [])) ≡ true
unfolding point_check all_in_range
six_in_range p q hp hq =
    go (in_range p.x) (in_range p.y) (in_range p.z) (in_range q.x) (in_range q.y) (in_range q.z) (in-range _ hp) (in-range _ hq)
  where
    go : (a b c d e f : Bool) → (a && b && c) ≡ true → (d && e && f) ≡ true → (a && (b && (c && (d && (e && (f && true)))))) ≡ true
    go true true true d e f h k = rest d e f k
      where
        rest : (d e f : Bool) → (d && e && f) ≡ true → (d && (e && (f && true))) ≡ true
        rest true true true k = refl
        rest true true false k = k
        rest true false f k = k
        rest false e f k = k
    go true true false d e f h k = h
    go true false c d e f h k = h
    go false b c d e f h k = h

leg_accepted : (l : Leg) → leg_check l ≡ 0 → stored_check (leg_floats l) ≡ 0
unfolding leg_floats leg_check stored_check list_check
leg_accepted l h =
    let e = six_in_range l.from l.to (first_passes (point_check l.from) (point_check l.to) h)
    (second_passes (point_check l.from) (point_check l.to) h) in
    rw e

leg_visits : (margin : Float) (l : Leg) (v : List Float) (closed : Bool) → visited margin (leg_floats l) false v closed ≡ leg_pairs margin l v closed
unfolding visited leg_floats legs pairs_between leg_pairs
leg_visits margin l v closed = append-nil (map (pair_of margin l) (legs (points v) closed))

module _ (l : Leg) (a : List Float) (h : a ≡ leg_floats l) where
  pub accepted_as : leg_check l ≡ 0 → stored_check a ≡ 0
  accepted_as ok = ap stored_check h ∙ leg_accepted l ok

  pub visits_as : (margin : Float) (v : List Float) (closed : Bool) → visited margin a false v closed ≡ leg_pairs margin l v closed
  visits_as margin v closed = ap (λ (b : List Float). visited margin b false v closed) h ∙ leg_visits margin l v closed
