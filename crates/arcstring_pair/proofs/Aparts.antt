-- Side values of which none grazes, with both signs among them, show that a pair is apart. Assumes nothing.
use mathlib.Core.Path.{◌≡◌}
use mathlib.Core.Bool.{true}
use mathlib.Core.List.{List}
use lib.Ieee.{Float}
use Rattle.sphericalpoint.specs.declared.SphericalPoint.{SphericalPoint}
use Rattle.arcstring.specs.Leg.{Leg}
use Rattle.arcstring_sides.specs.Sides.{grazes, is_above, is_below, some_side, shows_apart}
use Rattle.arcstring_sides.proofs.Aparts.{some_not_every, above_not_below, below_not_above, all_three}
use Rattle.arcstring_pair.specs.declared.pair.Pair.TheVariants.{Apart}
use Rattle.arcstring_pair.specs.Pair.{class_at}
use Rattle.arcstring_pair.proofs.Classes.{apart_class_lem}

module _ (margin : Float) (t : SphericalPoint) (a b : Leg) (s : List Float) where
  pub shows_apart_lem : shows_apart margin s ≡ true → Apart ≡ class_at margin t a b s
  unfolding shows_apart
  shows_apart_lem h =
      let k = all_three (some_side (grazes margin) s) (some_side is_above s) (some_side is_below s) h in
      apart_class_lem margin t a b s k.0 (some_not_every is_below is_above below_not_above s k.2) (some_not_every is_above is_below above_not_below s k.1)
