-- A leg split: one place more, one point more, a refusal, and the end. Assumes nothing.
use mathlib.Core.Path.{◌≡◌, sym, ap, ◌∙◌}
use mathlib.Core.List.{List}
use Prim.Native.Nat.{ℕ, ◌+◌, ◌-◌, ◌*◌, ◌≤◌, ◌<◌}
use native.Mathlib.Omega.{arith}
use lib.ListN.{length, drop}
use lib.Ieee.{Float}
use Rattle.sphericalpoint.specs.declared.SphericalPoint.{SphericalPoint}
use Rattle.arcstring_check.specs.Answer.{Answer, refused, answered}
use Rattle.arcstring.specs.Points.{points, point_at}
use Rattle.arcstring.specs.Leg.{Leg}
use Rattle.arcstring.proofs.Flat.{points-next, length-points}
use Rattle.arcstring_insert.specs.Steps.{for_each, for_positions}
use Rattle.arcstring_insert.proofs.Steps.{each_on, each_stops, each_end, positions_on, positions_stop, positions_end}
use Rattle.arcstring_split_leg.specs.SplitLeg.{cut_leg_at, cut_legs}
use Rattle.arcstring_split_leg.proofs.LegPairs.{first_legs, length-legs_of_first}

-- ---- one point at each of m places: ls are the legs that stand, and the places from k on are left

pub places_begin : (p : SphericalPoint) (w : List Float) (m : ℕ) → 6 * m ≤ length w
    → for_positions (cut_leg_at p) 0 (m - 0) (first_legs m w) ≡ cut_legs p (first_legs m w)
unfolding cut_legs
places_begin p w m room =
    let e : m - 0 ≡ length (first_legs m w) = omega (arith, length-legs_of_first m w room) in
    ap (λ (j : ℕ). for_positions (cut_leg_at p) 0 j (first_legs m w)) e

module _ (p : SphericalPoint) (ls : List Leg) (m k : ℕ) (whole : Answer (List Leg)) (rest : for_positions (cut_leg_at p) k (m - k) ls ≡ whole) where
  pub places_end : m ≤ k → answered ls ≡ whole
  places_end h = sym (positions_end (cut_leg_at p) k m ls h) ∙ rest

  pub places_stop : (r : ℕ) → k < m → refused r ≡ cut_leg_at p k ls → refused r ≡ whole
  places_stop r more cut = sym (positions_stop (cut_leg_at p) k m ls r more (sym cut)) ∙ rest

  pub places_on : (qs : List Leg) → k < m → answered qs ≡ cut_leg_at p k ls → for_positions (cut_leg_at p) (k + 1) (m - (k + 1)) qs ≡ whole
  places_on qs more cut = sym (positions_on (cut_leg_at p) k m ls qs more (sym cut)) ∙ rest

-- ---- each of the points in turn: ls are the legs that stand, and i points have been taken

module _ (extra : List Float) (count : ℕ) (triples : length extra ≡ 3 * count) (ls : List Leg) (i : ℕ) (whole : Answer (List Leg))
    (rest : for_each cut_legs (drop i (points extra)) ls ≡ whole) where
  pub cuts_end : count ≤ i → answered ls ≡ whole
  cuts_end h = sym (each_end cut_legs (points extra) i ls (omega (arith, length-points count extra triples))) ∙ rest

  -- q is point i
  module _ (q : SphericalPoint) (more : i < count) (read : q ≡ point_at extra i) where
    this : cut_legs (point_at extra i) ls ≡ cut_legs q ls
    this = ap (λ (p : SphericalPoint). cut_legs p ls) (sym read)

    pub cuts_stop : (r : ℕ) → refused r ≡ cut_legs q ls → refused r ≡ whole
    cuts_stop r cut =
        sym (each_stops cut_legs (points extra) i ls (point_at extra i) (points-next count extra i triples more) r (this ∙ sym cut)) ∙ rest

    pub cuts_on : (qs : List Leg) → answered qs ≡ cut_legs q ls → for_each cut_legs (drop (i + 1) (points extra)) qs ≡ whole
    cuts_on qs cut =
        sym (each_on cut_legs (points extra) i ls (point_at extra i) (points-next count extra i triples more) qs (this ∙ sym cut)) ∙ rest
