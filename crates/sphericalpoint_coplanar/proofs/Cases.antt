-- The definitions of the test of three points, at each outcome of their tests. Assumes nothing.
use mathlib.Core.Path.{◌≡◌, refl, sym, ap, ◌∙◌}
use mathlib.Core.Bool.{Bool, true, false, ◌&&◌, ◌||◌, cond}
use lib.Ieee.{Float, binary64, add, div, neg, lt, le}
use Rattle.ieee754.specs.Size.{abs}
use Rattle.sphericalpoint.specs.declared.SphericalPoint.{SphericalPoint}
use Rattle.sphericalpoint.specs.Vector.{coplanar_tolerance, xyz_cross, xyz_dot, xyz_length, xyz_eq}
use Rattle.sphericalpoint.specs.Point.{one}
use Rattle.sphericalpoint_coplanar.specs.Coplanar.{between_in_plane, between_ends, xyzs_coplanar}

none_of : (p i n : Bool) → i && n ≡ false → p && i && n ≡ false
none_of false i n h = refl
none_of true i n h = h

first_of_lem : (p i n : Bool) → p ≡ false → p && i && n ≡ false
first_of_lem p i n h = ap (λ (q : Bool). q && i && n) h

-- what is asked where the ends differ, with m the normal of a and b and l its length
abbrev pub on_leg : SphericalPoint → SphericalPoint → SphericalPoint → SphericalPoint → Float → Bool
on_leg a b c m l = cond (lt l coplanar_tolerance) false (between_in_plane a b c m l)

module _ (a b c m : SphericalPoint) (l : Float) (is : m ≡ xyz_cross a b) (long : l ≡ xyz_length m) where
  by_length : (q : Bool) → lt l coplanar_tolerance ≡ q → cond q false (between_in_plane a b c m l) ≡ on_leg a b c (xyz_cross a b) (xyz_length (xyz_cross a b))
  by_length q g =
      sym (ap (λ (t : Bool). cond t false (between_in_plane a b c m l)) g) ∙ (λ i. on_leg a b c (is i) ((long ∙ ap xyz_length is) i))

  pub no_plane : lt l coplanar_tolerance ≡ true → false ≡ on_leg a b c (xyz_cross a b) (xyz_length (xyz_cross a b))
  no_plane g = by_length true g

  pub in_plane : (r : Bool) → r ≡ between_in_plane a b c m l → lt l coplanar_tolerance ≡ false → r ≡ on_leg a b c (xyz_cross a b) (xyz_length (xyz_cross a b))
  in_plane r h g = h ∙ by_length false g

  -- no, where the last part says no, if it comes to that
  none : (lt l coplanar_tolerance ≡ false → between_in_plane a b c m l ≡ false) → false ≡ on_leg a b c (xyz_cross a b) (xyz_length (xyz_cross a b))
  none g = go (lt l coplanar_tolerance) refl
    where
      go : (q : Bool) → lt l coplanar_tolerance ≡ q → false ≡ on_leg a b c (xyz_cross a b) (xyz_length (xyz_cross a b))
      go true h = no_plane h
      go false h = in_plane false (sym (g h)) h

  abbrev near : Bool
  near = lt (div binary64 (abs (xyz_dot c m)) l) coplanar_tolerance

  abbrev inside : Bool
  inside = le (xyz_dot a b) (xyz_dot a c) && le (xyz_dot a b) (xyz_dot b c)

  abbrev not-antipodal : Bool
  not-antipodal = lt (add binary64 (neg one) coplanar_tolerance) (xyz_dot a b)

  pub far_off : (lt l coplanar_tolerance ≡ false → near ≡ false) → false ≡ on_leg a b c (xyz_cross a b) (xyz_length (xyz_cross a b))
  unfolding between_in_plane
  far_off g = none (λ h. first_of_lem near inside not-antipodal (g h))

  pub outside : between_ends a b c ≡ false → false ≡ on_leg a b c (xyz_cross a b) (xyz_length (xyz_cross a b))
  unfolding between_ends between_in_plane
  outside g = none (λ h. none_of near inside not-antipodal g)

pub ends_equal : (a b c : SphericalPoint) → xyz_eq a b || xyz_eq b c ≡ true → true ≡ xyzs_coplanar a b c
unfolding xyzs_coplanar
ends_equal a b c e = sym (ap (λ (p : Bool). cond p true (on_leg a b c (xyz_cross a b) (xyz_length (xyz_cross a b)))) e)

pub ends_differ : (a b c : SphericalPoint) → xyz_eq a b || xyz_eq b c ≡ false → on_leg a b c (xyz_cross a b) (xyz_length (xyz_cross a b)) ≡ xyzs_coplanar a b c
unfolding xyzs_coplanar
ends_differ a b c e = sym (ap (λ (p : Bool). cond p true (on_leg a b c (xyz_cross a b) (xyz_length (xyz_cross a b)))) e)
