-- The definitions of a mark on a leg, at each outcome of the tests, in the order in which the code has them. Assumes nothing.
use mathlib.Core.Path.{◌≡◌, refl, sym, ap, ap₂, ◌∙◌}
use mathlib.Core.Bool.{Bool, true, false, not, ◌&&◌, ◌||◌, cond, and-false, and-true}
use lib.Ieee.{Float, binary64, of_bits, add, div, neg, lt, le}
use Rattle.ieee754.specs.Size.{abs}
use Rattle.ieee754.specs.Value.{zero_float}
use Rattle.sphericalpoint.specs.declared.SphericalPoint.{SphericalPoint}
use Rattle.sphericalpoint.specs.Vector.{coplanar_tolerance, xyz_add, xyz_cross, xyz_dot, xyz_length, xyz_eq}
use Rattle.sphericalpoint.specs.Point.{one}
use Rattle.sphericalpoint.proofs.Tolerances.{coplanar_bits, one_bits}
use Rattle.arcstring.specs.Leg.{Leg, leg}
use Rattle.arcstring_mark.specs.Mark.{inside_leg, mark_on_leg}
use Rattle.arcstring_mark.specs.MarkParts.{between_ends}

-- ---- the six tests of a mark inside a leg

abbrev pub short : Leg → Bool
short l = lt (xyz_length (xyz_cross l.from l.to)) coplanar_tolerance

abbrev pub not_antipodal : Leg → Bool
not_antipodal l = lt (add binary64 (neg one) coplanar_tolerance) (xyz_dot l.from l.to)

abbrev pub coplanar : SphericalPoint → Leg → Bool
coplanar p l = lt (div binary64 (abs (xyz_dot p (xyz_cross l.from l.to))) (xyz_length (xyz_cross l.from l.to))) coplanar_tolerance

abbrev pub by_start : SphericalPoint → Leg → Bool
by_start p l = le (xyz_dot l.from l.to) (xyz_dot p l.from)

abbrev pub by_end : SphericalPoint → Leg → Bool
by_end p l = le (xyz_dot l.from l.to) (xyz_dot p l.to)

abbrev pub near_side : SphericalPoint → Leg → Bool
near_side p l = le zero_float (xyz_dot p (xyz_add l.from l.to))

short_first : (s n c d e f : Bool) → cond s false (c && (n && (d && e) && f)) ≡ not s && n && c && d && e && f
short_first true n c d e f = refl
short_first false false c d e f = and-false c
short_first false true true d e f = refl
short_first false true false d e f = refl

-- no, where one of the last two tests says no, if it comes to that
none : (s c e : Bool) → (s ≡ false → c && e ≡ false) → false ≡ cond s false (c && e)
none true c e h = refl
none false c e h = sym (h refl)

-- ---- the tests that need no normal, by the constants' bits

zero_bits : of_bits binary64 0 ≡ zero_float
unfolding of_bits
zero_bits = refl

pub ends_tested : (a b p : SphericalPoint) {d e f g : Float} {s : SphericalPoint} → d ≡ xyz_dot a b → e ≡ xyz_dot p a → f ≡ xyz_dot p b → s ≡ xyz_add a b
    → g ≡ xyz_dot p s
    → lt (add binary64 (neg (of_bits binary64 0x3ff0_0000_0000_0000)) (of_bits binary64 0x3e55_798e_e230_8c3a)) d && (le d e && le d f)
    && le (of_bits binary64 0) g ≡ between_ends p (leg a b)
unfolding between_ends
ends_tested a b p hd he hf hs hg =
    λ i. lt (add binary64 (neg (one_bits i)) (coplanar_bits i)) (hd i) && (le (hd i) (he i) && le (hd i) (hf i))
    && le (zero_bits i) ((hg ∙ ap (xyz_dot p) hs) i)

-- ---- the leg from a to b, with m its normal and l the length of that

module _ (a b p m : SphericalPoint) (l : Float) (is : m ≡ xyz_cross a b) (long : l ≡ xyz_length m) where
  abbrev near : Bool
  near = lt (div binary64 (abs (xyz_dot p m)) l) coplanar_tolerance

  in-turn : cond (lt l coplanar_tolerance) false (near && between_ends p (leg a b)) ≡ inside_leg p (leg a b)
  unfolding inside_leg between_ends
  in-turn =
      let t = leg a b in
      (λ i. cond (lt ((long ∙ ap xyz_length is) i) coplanar_tolerance) false
      (lt (div binary64 (abs (xyz_dot p (is i))) ((long ∙ ap xyz_length is) i)) coplanar_tolerance && between_ends p t))
      ∙ short_first (short t) (not_antipodal t) (coplanar p t) (by_start p t) (by_end p t) (near_side p t)

  pub far_off : (lt l coplanar_tolerance ≡ false → near ≡ false) → false ≡ inside_leg p (leg a b)
  far_off g = none (lt l coplanar_tolerance) near (between_ends p (leg a b)) (λ h. ap (λ (t : Bool). t && between_ends p (leg a b)) (g h)) ∙ in-turn

  pub outside : between_ends p (leg a b) ≡ false → false ≡ inside_leg p (leg a b)
  outside g = none (lt l coplanar_tolerance) near (between_ends p (leg a b)) (λ h. ap (λ (t : Bool). near && t) g ∙ and-false near) ∙ in-turn

  pub no_inside : lt l coplanar_tolerance ≡ true → false ≡ inside_leg p (leg a b)
  no_inside g = sym (ap (λ (s : Bool). cond s false (near && between_ends p (leg a b))) g) ∙ in-turn

  pub between : (r : Bool) → r ≡ near → lt l coplanar_tolerance ≡ false → between_ends p (leg a b) ≡ true → r ≡ inside_leg p (leg a b)
  between r h g e = h ∙ sym (and-true near) ∙ ap₂ (λ (s t : Bool). cond s false (near && t)) (sym g) (sym e) ∙ in-turn

-- ---- with the ends

pub end_held : (p : SphericalPoint) (l : Leg) → xyz_eq p l.from || xyz_eq p l.to ≡ true → true ≡ mark_on_leg p l
unfolding mark_on_leg
end_held p l h = sym (ap (λ (e : Bool). e || inside_leg p l) h)

pub no_end : (p : SphericalPoint) (l : Leg) → xyz_eq p l.from || xyz_eq p l.to ≡ false → inside_leg p l ≡ mark_on_leg p l
unfolding mark_on_leg
no_end p l h = sym (ap (λ (e : Bool). e || inside_leg p l) h)

-- by the code's points s, t and q: d and e whether the mark equals an end
module _ {a b p s t q : SphericalPoint} (ha : s ≡ a) (hb : t ≡ b) (hp : q ≡ p) {d e : Bool} (hd : d ≡ xyz_eq q s) (he : e ≡ xyz_eq q t) where
  either : d || e ≡ xyz_eq p a || xyz_eq p b
  either = λ i. (hd ∙ (λ j. xyz_eq (hp j) (ha j))) i || (he ∙ (λ j. xyz_eq (hp j) (hb j))) i

  pub yes_at_end : d || e ≡ true → true ≡ mark_on_leg p (leg a b)
  yes_at_end h = end_held p (leg a b) (sym either ∙ h)

  pub else_inside : (r : Bool) → r ≡ inside_leg q (leg s t) → d || e ≡ false → r ≡ mark_on_leg p (leg a b)
  else_inside r g h = g ∙ (λ i. inside_leg (hp i) (leg (ha i) (hb i))) ∙ no_end p (leg a b) (sym either ∙ h)
