-- The legs of an accepted string, and an accepted leg, have coordinates from -1 to 1, so that the laws of `Finite` hold of them, as `specs/FiniteLaws.antt`
-- has it; and a leg in range is accepted. Assumes nothing.
use mathlib.Core.Path.{◌≡◌, refl, sym, subst}
use mathlib.Core.Logic.{◌⊎◌, inl, inr}
use mathlib.Core.Bool.{Bool, true, false, ◌&&◌}
use mathlib.Core.List.Memᴰ
use mathlib.Core.List.{List, [], ◌∷◌, ◌++◌, Memᴰ}
use lib.Dec.{T}
use lib.Ieee.{Float}
use lib.Ieee.Fits.{and_l, and_r}
use Rattle.sphericalpoint.specs.declared.SphericalPoint.{SphericalPoint}
use Rattle.arcstring.specs.Points.{points}
use Rattle.arcstring_check.specs.Check.{in_range, all_in_range, stored_check, point_check}
use Rattle.arcstring_check.proofs.Answers.{first_passes, second_passes}
use Rattle.arcstring_check.proofs.Checks.{true_of, if_none_not, stored_whole}
use Rattle.arcstring.specs.Leg.{Leg, leg_check, chain, legs}
use Rattle.arcstring_pair.specs.FiniteLaws.{PairsFinite}
use Rattle.arcstring_pair.proofs.Finite.{PointInRange, LegInRange, meeting_finite, sides_finite, side_trichotomy}

holds : {b : Bool} → b ≡ true → T b
holds e = subst T (sym e) tt

-- ---- an accepted leg

point_passed : (p : SphericalPoint) → point_check p ≡ 0 → PointInRange p
unfolding point_check
point_passed p h =
    let x = in_range p.x in
    let y = in_range p.y in
    let z = in_range p.z in
    let t : T (x && y && z) = holds (if_none_not (x && y && z) 3 h) in
    record { x = and_l x y (and_l (x && y) z t); y = and_r x y (and_l (x && y) z t); z = and_r (x && y) z t }

pub accepted_leg-in_range : (l : Leg) → leg_check l ≡ 0 → LegInRange l
unfolding leg_check
accepted_leg-in_range l h =
    record {
      from = point_passed l.from (first_passes (point_check l.from) (point_check l.to) h);
      to = point_passed l.to (second_passes (point_check l.from) (point_check l.to) h);
    }

pub pairs_finite : PairsFinite
pairs_finite a b h k =
    let i = accepted_leg-in_range a h in
    let j = accepted_leg-in_range b k in
    record { point_finite = meeting_finite a b i j; sides_finite = sides_finite a b i j; one_of_three = side_trichotomy a b i j }

point_passes : (p : SphericalPoint) → PointInRange p → point_check p ≡ 0
unfolding point_check
point_passes p h = rw (true_of (in_range p.x) h.x, true_of (in_range p.y) h.y, true_of (in_range p.z) h.z)

pub in_range_accepted : (l : Leg) → LegInRange l → leg_check l ≡ 0
unfolding leg_check
in_range_accepted l h = rw (point_passes l.from h.from, point_passes l.to h.to)

-- ---- an accepted string

points_in_range : (v : List Float) → T (all_in_range v) → (p : SphericalPoint) → Memᴰ p (points v) → PointInRange p
unfolding all_in_range
points_in_range [] h p m = absurd (Memᴰ.not-nil m)
points_in_range (x ∷ []) h p m = absurd (Memᴰ.not-nil m)
points_in_range (x ∷ y ∷ []) h p m = absurd (Memᴰ.not-nil m)
points_in_range (x ∷ y ∷ z ∷ v) h p (Memᴰ.head e) =
    let a = in_range x in
    let b = in_range y in
    let c = in_range z in
    let r = all_in_range v in
    let g = and_r a (b && (c && r)) h in
    subst PointInRange (sym e) (record { x = and_l a (b && (c && r)) h; y = and_l b (c && r) g; z = and_l c r (and_r b (c && r) g) })
points_in_range (x ∷ y ∷ z ∷ v) h p (Memᴰ.tail m) =
    points_in_range v (and_r (in_range z) (all_in_range v)
    (and_r (in_range y) (in_range z && all_in_range v) (and_r (in_range x) (in_range y && (in_range z && all_in_range v)) h))) p m

chain-in_range : (u : SphericalPoint) (vs : List SphericalPoint) → ((p : SphericalPoint) → Memᴰ p (u ∷ vs) → PointInRange p) → (l : Leg)
    → Memᴰ l (chain u vs) → LegInRange l
chain-in_range u [] h l m = absurd (Memᴰ.not-nil m)
chain-in_range u (v ∷ vs) h l (Memᴰ.head e) = subst LegInRange (sym e)
    (record { from = h u (Memᴰ.head refl); to = h v (Memᴰ.tail (Memᴰ.head refl)) })
chain-in_range u (v ∷ vs) h l (Memᴰ.tail m) = chain-in_range v vs (λ p n. h p (Memᴰ.tail n)) l m

legs_in_range : (ps : List SphericalPoint) (closed : Bool) → ((p : SphericalPoint) → Memᴰ p ps → PointInRange p) → (l : Leg) → Memᴰ l (legs ps closed)
    → LegInRange l
unfolding legs
legs_in_range [] closed h l m = absurd (Memᴰ.not-nil m)
legs_in_range (u ∷ vs) false h l m = chain-in_range u vs h l m
legs_in_range (u ∷ vs) true h l m = chain-in_range u (vs ++ (u ∷ [])) back l m
  where
    at : (p : SphericalPoint) → Memᴰ p vs ⊎ Memᴰ p (u ∷ []) → PointInRange p
    at p (inl n) = h p (Memᴰ.tail n)
    at p (inr n) = h p (Memᴰ.head (Memᴰ.eq_of_singleton n))

    back : (p : SphericalPoint) → Memᴰ p (u ∷ (vs ++ (u ∷ []))) → PointInRange p
    back p (Memᴰ.head e) = h p (Memᴰ.head e)
    back p (Memᴰ.tail n) = at p (Memᴰ.append_cases vs n)

pub accepted_legs_in_range : (v : List Float) (closed : Bool) → stored_check v ≡ 0 → (l : Leg) → Memᴰ l (legs (points v) closed) → LegInRange l
accepted_legs_in_range v closed h = legs_in_range (points v) closed (points_in_range v (holds (stored_whole v h).in-range))
