-- The pairs that the calls visit are those that the walks over the legs of an accepted string visit, and how many they keep at most. Assumes nothing.
use mathlib.Core.Path.{◌≡◌, ap, ap₂, ◌∙◌}
use mathlib.Core.Bool.{Bool, false}
use mathlib.Core.List.{List}
use Prim.Native.Nat.{ℕ, ◌/◌, ◌-◌, ◌*◌, ◌<◌, ◌≤◌}
use native.Mathlib.Nat.{mul-zero}
use native.Mathlib.Omega.{arith}
use lib.ListN.{length}
use lib.Ieee.{Float}
use Rattle.arcstring.specs.Points.{points}
use Rattle.arcstring.specs.Leg.{Leg, legs}
use Rattle.arcstring.proofs.Flat.{count_points}
use Rattle.arcstring_tally.specs.Pairs.{pairs_within, kept_marks}
use Rattle.arcstring_tally.proofs.Tallies.{kept_bound}
use Rattle.arcstring_visit.proofs.Rows.{length_self}
use Rattle.arcstring_self.specs.SelfListing.{self_pairs}

pub self_visits : (margin : Float) (v : List Float) (closed : Bool) (ls : List Leg) → ls ≡ legs (points v) closed
    → pairs_within margin ls ≡ self_pairs margin v closed
unfolding self_pairs
self_visits margin v closed ls h = ap (pairs_within margin) h

pub self_pairs_as : (margin : Float) (v w : List Float) (closed other : Bool) → v ≡ w → closed ≡ other → self_pairs margin v closed ≡ self_pairs margin w other
self_pairs_as margin v w closed other h k = ap₂ (self_pairs margin) h k

-- twice as many points as a string's pairs with itself keep
pub kept_self : (margin : Float) (v : List Float) → length (kept_marks (self_pairs margin v false)) * 2 ≤ (length v / 3 - 2) * (length v / 3 - 3)
unfolding self_pairs
kept_self margin v =
    let ps = pairs_within margin (legs (points v) false) in
    let e : length ps * 2 ≡ (length v / 3 - 2) * (length v / 3 - 3) = length_self margin (points v) ∙ ap (λ (k : ℕ). (k - 2) * (k - 3)) (count_points v) in
    omega (arith, kept_bound ps, e)

pub kept_few : (margin : Float) (v : List Float) → length v / 3 < 4 → length (kept_marks (self_pairs margin v false)) ≡ 0
kept_few margin v h =
    let z : length v / 3 - 3 ≡ 0 = omega arith in
    let e : (length v / 3 - 2) * (length v / 3 - 3) ≡ 0 = ap (λ (k : ℕ). (length v / 3 - 2) * k) z ∙ mul-zero (length v / 3 - 2) in
    omega (arith, kept_self margin v, e)
