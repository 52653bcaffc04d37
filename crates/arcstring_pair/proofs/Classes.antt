-- The class of a pair of legs, and what a grazing pair keeps, at each outcome of the tests. Assumes nothing.
use mathlib.Core.Path.{◌≡◌, ap, ◌∙◌}
use mathlib.Core.Bool.{Bool, true, false, ◌||◌}
use mathlib.Core.List.{List}
use lib.Ieee.{Float}
use Rattle.sphericalpoint.specs.declared.SphericalPoint.{SphericalPoint}
use Rattle.sphericalpoint.specs.Vector.{xyz_neg, xyz_eq}
use Rattle.arcstring_pair.specs.declared.pair.Pair.{Pair}
use Rattle.arcstring_pair.specs.declared.pair.Pair.TheVariants.{Clean, End, Grazing, Apart}
use Rattle.arcstring_pair.specs.declared.pair.Outcome.{Outcome}
use Rattle.arcstring_pair.specs.declared.pair.Outcome.TheVariants.{Kept, Dropped, None}
use Rattle.arcstring_sides.specs.Sides.{grazes, is_above, is_below, sign_negative, sign_positive, some_side, every_side}
use Rattle.arcstring_pair.specs.Pair.{at_end, kept_or_dropped, grazing_outcome}
use Rattle.arcstring_pair.specs.Pair.{end_or_clean, class_at}
use Rattle.arcstring.specs.Leg.{Leg}

-- the test of a point that a call returns
pub equal_as : (p u v : SphericalPoint) (q : Bool) → u ≡ v → q ≡ xyz_eq p u → q ≡ xyz_eq p v
equal_as p u v q h k = k ∙ ap (xyz_eq p) h

module _ (p : SphericalPoint) (a b : Leg) where
  pub end_tested : (q r s t : Bool) → q ≡ xyz_eq p a.from → r ≡ xyz_eq p a.to → s ≡ xyz_eq p b.from → t ≡ xyz_eq p b.to
      → (((q || r) || s) || t) ≡ at_end p a b
  unfolding at_end
  end_tested q r s t h i j k = rw (h, i, j, k)

  pub end_dropped : at_end p a b ≡ true → Dropped p ≡ kept_or_dropped p a b
  unfolding kept_or_dropped
  end_dropped h = rw h

  pub other_kept : at_end p a b ≡ false → Kept p ≡ kept_or_dropped p a b
  unfolding kept_or_dropped
  other_kept h = rw h

  pub end_class_lem : at_end p a b ≡ true → End p ≡ end_or_clean p a b
  unfolding end_or_clean
  end_class_lem h = rw h

  pub clean_class : at_end p a b ≡ false → Clean p ≡ end_or_clean p a b
  unfolding end_or_clean
  clean_class h = rw h

module _ (t : SphericalPoint) (a b : Leg) (s : List Float) where
  pub positive_outcome : (o : Outcome) → every_side sign_positive s ≡ true → o ≡ kept_or_dropped t a b → o ≡ grazing_outcome t a b s
  unfolding grazing_outcome
  positive_outcome o h k = rw h k

  pub negative_outcome : (o : Outcome) (u : SphericalPoint) → every_side sign_positive s ≡ false → every_side sign_negative s ≡ true → u ≡ xyz_neg t
      → o ≡ kept_or_dropped u a b
      → o ≡ grazing_outcome t a b s
  unfolding grazing_outcome
  negative_outcome o u h i e k = rw (h, i, ← e) k

  pub mixed_outcome : every_side sign_positive s ≡ false → every_side sign_negative s ≡ false → None ≡ grazing_outcome t a b s
  unfolding grazing_outcome
  mixed_outcome h i = rw (h, i)

module _ (margin : Float) (t : SphericalPoint) (a b : Leg) (s : List Float) where
  pub grazing_class_lem : (o : Outcome) → some_side (grazes margin) s ≡ true → o ≡ grazing_outcome t a b s → Grazing o ≡ class_at margin t a b s
  unfolding class_at
  grazing_class_lem o h k = rw (h, k)

  pub above_class : (r : Pair) → some_side (grazes margin) s ≡ false → every_side is_above s ≡ true → r ≡ end_or_clean t a b → r ≡ class_at margin t a b s
  unfolding class_at
  above_class r h i k = rw (h, i) k

  pub below_class : (r : Pair) (u : SphericalPoint) → some_side (grazes margin) s ≡ false → every_side is_above s ≡ false → every_side is_below s ≡ true
      → u ≡ xyz_neg t
      → r ≡ end_or_clean u a b
      → r ≡ class_at margin t a b s
  unfolding class_at
  below_class r u h i j e k = rw (h, i, j, ← e) k

  pub apart_class_lem : some_side (grazes margin) s ≡ false → every_side is_above s ≡ false → every_side is_below s ≡ false → Apart ≡ class_at margin t a b s
  unfolding class_at
  apart_class_lem h i j = rw (h, i, j)
