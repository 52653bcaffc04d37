-- The worst points that a long search found, computed: one whose sum of squares is 6.3 * 2 ^ -53 below 1 once it is normalised, and one that is 4.7 * 2 ^ -53
-- above 1 after a second normalising too. So 4 * 2 ^ -53, a quarter of 2 ^ -49, is too little. Assumes nothing.
use mathlib.Core.Path.{◌≡◌, refl, sym, ap, ◌∙◌, subst}
use mathlib.Core.Bool.{true, false}
use Prim.Native.Nat.{◌+◌, ◌*◌, ◌^◌}
use native.Mathlib.Nat.{not-le_of_lt}
use lib.IntN.{negsuc}
use lib.Dec.{lit≤}
use lib.Ieee.{fin, fits, lt, add, mul, div}
use Rattle.sphericalpoint.specs.declared.SphericalPoint.{SphericalPoint}
use Rattle.square_root.specs.Sqrt.{sqrt_of}
use Rattle.sphericalpoint.specs.Vector.{equality_tolerance, xyz_mul, xyz_div, xyz_sum, xyz_length, normalized}
use Rattle.unit_length.specs.UnitPoint.{squares, square_of_one, Within}
use Rattle.unit_length.specs.UnitLaws.{TooLittle, NormalizedSharp, NormalizedTwiceSharp}
use Rattle.unit_length.proofs.UnitLength.{within_50, twice_within_50}

-- ---- once

-- (-0x1.6a13f75db1af4p-20, -0x1.6a27fb295ae11p-20, 0x1.6a1497d5ca04cp-46)
abbrev first : SphericalPoint
first = record { x = fin true 0x5a84fdd76c6bd (negsuc 69); y = fin true 0x16a27fb295ae11 (negsuc 71); z = fin false 0x5a8525f572813 (negsuc 95) }

-- (-0x1.69ffe4ecbfed2p-1, -0x1.6a13e79c5e9dap-1, 0x1.6a00855bf2f53p-27)
abbrev first_once : SphericalPoint
first_once = record { x = fin true 0xb4fff2765ff69 (negsuc 51); y = fin true 0xb509f3ce2f4ed (negsuc 51); z = fin false 0x16a00855bf2f53 (negsuc 78) }

first_is : normalized first ≡ first_once
unfolding normalized xyz_div xyz_length xyz_sum xyz_mul add mul div sqrt_of
first_is = refl

first_missed : Within 51 (squares first_once) square_of_one → ⊥
first_missed h = not-le_of_lt h.not_below (lit≤ {m = squares first_once * 2 ^ 51 + square_of_one} {n = square_of_one * 2 ^ 51} tt)

once_too_little : TooLittle 51 normalized
unfolding fits lt equality_tolerance xyz_length xyz_sum xyz_mul add mul sqrt_of
once_too_little = record {
  at = first;
  is_f64 = record { x_fits = tt; y_fits = tt; z_fits = tt };
  in-range = record { x_in_range = lit≤ tt; y_in_range = lit≤ tt; z_in_range = lit≤ tt };
  long = tt;
  missed = subst (λ (p : SphericalPoint). Within 51 (squares p) square_of_one → ⊥) (sym first_is) first_missed;
}

pub normalized_sharp : NormalizedSharp
normalized_sharp = record { half_holds = within_50; quarter_fails = once_too_little }

-- ---- twice

-- (-0x1.109aef343b972p-30, 0x1.b164e0634384ap-30, -0x1.395c63c4502f8p-55)
abbrev second : SphericalPoint
second = record { x = fin true 0x884d779a1dcb9 (negsuc 80); y = fin false 0xd8b27031a1c25 (negsuc 80); z = fin true 0x272b8c788a05f (negsuc 103) }

-- (-0x1.109aef15f2a2p-1, 0x1.b164e0331dbp-1, -0x1.395c63a180206p-26), which a second normalising leaves as it is
abbrev second_once : SphericalPoint
second_once = record { x = fin true 0x884d778af951 (negsuc 47); y = fin false 0x1b164e0331db (negsuc 44); z = fin true 0x9cae31d0c0103 (negsuc 76) }

second_is : normalized second ≡ second_once
unfolding normalized xyz_div xyz_length xyz_sum xyz_mul add mul div sqrt_of
second_is = refl

second_stays : normalized second_once ≡ second_once
unfolding normalized xyz_div xyz_length xyz_sum xyz_mul add mul div sqrt_of
second_stays = refl

second_missed : Within 51 (squares second_once) square_of_one → ⊥
second_missed h = not-le_of_lt h.not_above (lit≤ {m = square_of_one * 2 ^ 51 + square_of_one} {n = squares second_once * 2 ^ 51} tt)

twice_too_little : TooLittle 51 (λ (a : SphericalPoint). normalized (normalized a))
unfolding fits lt equality_tolerance xyz_length xyz_sum xyz_mul add mul sqrt_of
twice_too_little = record {
  at = second;
  is_f64 = record { x_fits = tt; y_fits = tt; z_fits = tt };
  in-range = record { x_in_range = lit≤ tt; y_in_range = lit≤ tt; z_in_range = lit≤ tt };
  long = tt;
  missed = subst (λ (p : SphericalPoint). Within 51 (squares p) square_of_one → ⊥) (sym (ap normalized second_is ∙ second_stays)) second_missed;
}

pub normalized_twice_sharp : NormalizedTwiceSharp
normalized_twice_sharp = record { half_holds = twice_within_50; quarter_fails = twice_too_little }
