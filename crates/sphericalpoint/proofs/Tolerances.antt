-- The tolerances and the number 1 as the code has them, by their bits, are those of the definitions. Assumes nothing.
use mathlib.Core.Path.{◌≡◌, refl}
use lib.Ieee.{binary64, of_bits, round}
use Rattle.sphericalpoint.specs.Vector.{equality_tolerance, coplanar_tolerance, unit_tolerance}
use Rattle.sphericalpoint.specs.Point.{one}

pub equality_bits : of_bits binary64 0x3dc0_7e1f_e91b_0b70 ≡ equality_tolerance
unfolding of_bits round equality_tolerance
equality_bits = refl

pub coplanar_bits : of_bits binary64 0x3e55_798e_e230_8c3a ≡ coplanar_tolerance
unfolding of_bits round coplanar_tolerance
coplanar_bits = refl

pub unit_bits : of_bits binary64 0x3db5_fd7f_e179_6495 ≡ unit_tolerance
unfolding of_bits round unit_tolerance
unit_bits = refl

pub one_bits : of_bits binary64 0x3ff0_0000_0000_0000 ≡ one
unfolding of_bits
one_bits = refl
