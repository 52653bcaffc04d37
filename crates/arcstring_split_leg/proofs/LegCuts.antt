-- Whether a point cuts a leg, test by test; and one place of a split leg: not cut, cut, and one leg too many. Assumes nothing.
use mathlib.Core.Path.{◌≡◌, refl, sym, ap, ◌∙◌}
use mathlib.Core.Bool.{Bool, true, false, not, ◌&&◌, ◌||◌}
use mathlib.Core.List.{List, ◌∷◌, ◌++◌}
use Prim.Native.Nat.{ℕ, ◌+◌, ◌-◌, ◌*◌, ◌≤◌, ◌<◌}
use native.Mathlib.Omega.{arith}
use lib.ListN.{length, get_or, take, drop, length-append, length-drop}
use lib.Seq.{length-take-le}
use lib.Ieee.{Float}
use Rattle.sphericalpoint.specs.declared.SphericalPoint.{SphericalPoint}
use Rattle.sphericalpoint.specs.Vector.{xyz_eq}
use Rattle.arcstring_check.specs.Answer.{refused, answered, pick}
use Rattle.arcstring.specs.Points.{point_at, no_point}
use Rattle.arcstring.specs.Splice.{splice}
use Rattle.arcstring.specs.Leg.{Leg, leg}
use Rattle.arcstring_along.specs.OnString.{along_leg}
use Rattle.arcstring_insert.specs.Steps.{limited}
use Rattle.arcstring_insert.proofs.Shifts.{floats}
use Rattle.arcstring_insert.proofs.Steps.{over_limit, at_most_limit}
use Rattle.arcstring_split_leg.specs.Legs.{most_legs}
use Rattle.arcstring_split_leg.specs.SplitLeg.{cuts_leg, cut_leg_at}
use Rattle.arcstring_split_leg.proofs.LegPairs.{leg_of_first, first_cut, first_legs, length-legs_of_first}

-- ---- whether a point cuts a leg: x whether it is the leg's start, y whether it is its end

module _ (p : SphericalPoint) (l : Leg) where
  cuts_by : (a b t : Bool) → xyz_eq l.from p ≡ a → xyz_eq p l.to ≡ b → along_leg p l ≡ t → not (a || b) && t ≡ cuts_leg p l
  unfolding cuts_leg
  cuts_by a b t ha hb ht = sym (λ i. not (ha i || hb i) && ht i)

  module _ (s : SphericalPoint) (x : Bool) (start : s ≡ l.from) (first : x ≡ xyz_eq s p) where
    test_start : (a : Bool) → x ≡ a → xyz_eq l.from p ≡ a
    test_start a e = ap (λ (q : SphericalPoint). xyz_eq q p) (sym start) ∙ sym first ∙ e

    pub at_start : x ≡ true → false ≡ cuts_leg p l
    at_start e = cuts_by true (xyz_eq p l.to) (along_leg p l) (test_start true e) refl refl

    module _ (q : SphericalPoint) (y : Bool) (end : q ≡ l.to) (second : y ≡ xyz_eq p q) (apart : x ≡ false) where
      test_end : (b : Bool) → y ≡ b → xyz_eq p l.to ≡ b
      test_end b e = ap (xyz_eq p) (sym end) ∙ sym second ∙ e

      pub at-end : y ≡ true → false ≡ cuts_leg p l
      at-end e = cuts_by false true (along_leg p l) (test_start false apart) (test_end true e) refl

      pub between_ends_lem : (r : Bool) → y ≡ false → r ≡ along_leg p l → r ≡ cuts_leg p l
      between_ends_lem r e along = cuts_by false false r (test_start false apart) (test_end false e) (sym along)

-- ---- one place

module _ (p : SphericalPoint) (k : ℕ) (ls : List Leg) where
  abbrev pub place : Leg
  place = get_or ls k (leg no_point no_point)

  abbrev pub halves : List Leg
  halves = take k ls ++ (leg place.from p ∷ leg p p ∷ drop (k + 1) ls)

  pub place_by : (t : Bool) → cuts_leg p place ≡ t → pick t (limited (2 * length halves) halves) (answered ls) ≡ cut_leg_at p k ls
  unfolding cut_leg_at
  place_by t h = sym (ap (λ (b : Bool). pick b (limited (2 * length halves) halves) (answered ls)) h)

  pub length_halves : k < length ls → length halves ≡ length ls + 1
  length_halves h =
      omega (arith, length-append (take k ls) (leg place.from p ∷ leg p p ∷ drop (k + 1) ls), length-take-le k ls (omega arith), length-drop (k + 1) ls)

-- m legs stand at the start of w, x is the one at k, b whether the point cuts it
module _ (p : SphericalPoint) (w : List Float) (m k : ℕ) (x : Leg) (b : Bool) (within : k < m) (room : 6 * m ≤ length w)
    (read : x ≡ leg (point_at w (2 * k)) (point_at w (2 * k + 1))) (tested : b ≡ cuts_leg p x) where
  abbrev stand : List Leg
  stand = first_legs m w

  cuts : (t : Bool) → b ≡ t → cuts_leg p (place p k stand) ≡ t
  cuts t e = ap (cuts_leg p) (leg_of_first w m k (leg no_point no_point) within room ∙ sym read) ∙ sym tested ∙ e

  count : length stand ≡ m
  count = length-legs_of_first m w room

  -- the two points of each leg, once the leg at k is two
  points_cut : 2 * length (halves p k stand) ≡ 2 * (m + 1)
  points_cut = omega (arith, length_halves p k stand (omega (arith, count)), count)

  pub place_uncut : b ≡ false → answered stand ≡ cut_leg_at p k stand
  place_uncut e = place_by p k stand false (cuts false e)

  pub place_full : b ≡ true → m ≡ most_legs → refused 3 ≡ cut_leg_at p k stand
  place_full e full =
      sym (over_limit (2 * length (halves p k stand)) (halves p k stand) (omega (arith, points_cut))) ∙ place_by p k stand true (cuts true e)

  -- w1, w2 and w3 after the three writes of the point
  pub place_cut : (w1 w2 w3 : List Float) → b ≡ true → m < most_legs → 6 * m + 6 ≤ length w → length w1 ≡ length w → length w2 ≡ length w1
      → w1 ≡ splice w (3 * (2 * k + 1)) (floats p)
      → w2 ≡ splice w1 (3 * (2 * k + 2)) (floats p ++ take (3 * (2 * m - (2 * k + 2))) (drop (3 * (2 * k + 2)) w1))
      → w3 ≡ splice w2 (3 * (2 * k + 2)) (floats p ++ take (3 * (2 * m + 1 - (2 * k + 2))) (drop (3 * (2 * k + 2)) w2))
      → answered (first_legs (m + 1) w3) ≡ cut_leg_at p k stand
  place_cut w1 w2 w3 e some larger l1 l2 written once twice =
      ap answered (first_cut w w1 w2 w3 m k p (leg no_point no_point) within larger l1 l2 written once twice)
      ∙ sym (at_most_limit (2 * length (halves p k stand)) (halves p k stand) (omega (arith, points_cut)))
      ∙ place_by p k stand true (cuts true e)
