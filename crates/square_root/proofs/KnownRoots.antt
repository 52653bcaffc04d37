-- Roots that the definition gives: where no root is worked out, by its cases; and some, each computed. Assumes nothing.
use mathlib.Core.Path.{◌≡◌, refl, sym}
use mathlib.Core.Bool.{true, false, true≢false}
use Prim.Native.Nat.{zero, suc}
use native.Mathlib.Omega.{arith}
use lib.IntN.{pos}
use lib.Dec.{T}
use lib.Ieee.{Float, nan, inf, fin, lt}
use borrow.Author.Tests.{ltb-true}
use Rattle.ieee754.specs.Value.{is_zero}
use Rattle.square_root.specs.Sqrt.{sqrt_of}
use Rattle.square_root.specs.RootLaws.{RootsElsewhere, KnownRoots}

-- ---- not above zero

of_zero : (x : Float) → T (is_zero x) → sqrt_of x ≡ x
unfolding sqrt_of
of_zero nan z = absurd z
of_zero (inf s) z = absurd z
of_zero (fin s zero e) z = refl
of_zero (fin s (suc m) e) z = absurd z

of_below_zero : (x : Float) → lt x (fin false 0 (pos 0)) ≡ true → sqrt_of x ≡ nan
unfolding lt sqrt_of
of_below_zero nan h = refl
of_below_zero (inf true) h = refl
of_below_zero (inf false) h = absurd (true≢false (sym h))
of_below_zero (fin true zero e) h = absurd (omega (arith, ltb-true))
of_below_zero (fin true (suc m) e) h = refl
of_below_zero (fin false m e) h = absurd (omega (arith, ltb-true))

pub roots_elsewhere : RootsElsewhere
unfolding sqrt_of
roots_elsewhere = record { zero_itself = of_zero; infinity_itself = refl; below_zero = of_below_zero; nan_itself = refl }

-- ---- computed

pub known_roots : KnownRoots
unfolding sqrt_of
known_roots = record {
  root_of_zero = refl;
  root_of_minus_zero = refl;
  root_of_a_quarter = refl;
  root_of_one = refl;
  root_of_two = refl;
  root_of_four = refl;
  root_of_smallest = refl;
  root_of_infinity = refl;
  root_of_minus_infinity = refl;
  root_of_minus_one = refl;
  root_of_nan = refl;
}
