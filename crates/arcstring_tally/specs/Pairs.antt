-- The visited pairs of two lists of legs and of one with itself, their counts and the kept points. Definitions only.
use mathlib.Core.List.{List, [], ◌∷◌, ◌++◌, map, filter_map}
use Rattle.std.proofs.Math.Option.{Option, none, some}
use Rattle.std.specs.Prelude.{ℕ, ◌+◌, drop, eqb, Float}
use Rattle.sphericalpoint.specs.declared.SphericalPoint.{SphericalPoint}
use Rattle.arcstring_check.specs.Answer.{pick, flag_number}
use Rattle.arcstring.specs.Leg.{Leg}
use Rattle.arcstring_pair.specs.declared.pair.Pair.{Pair}
use Rattle.arcstring_pair.specs.Pair.{pair_of, class_number, judged, kept_point}
use Rattle.arcstring_tally.specs.declared.counts.Counts.{Counts}

-- ---- the visited pairs at a margin, in the sequence in which they are visited

-- every leg of the first with every leg of the second, leg by leg of the first
unfoldable pub pairs_between : Float → List Leg → List Leg → List Pair
pairs_between margin [] bs = []
pairs_between margin (a ∷ ls) bs = map (pair_of margin a) bs ++ pairs_between margin ls bs

-- each leg with every leg after the next one
unfoldable pub pairs_within : Float → List Leg → List Pair
pairs_within margin [] = []
pairs_within margin (a ∷ ls) = map (pair_of margin a) (drop 1 ls) ++ pairs_within margin ls

-- ---- the four counts: of the visited pairs, those of each class

-- 1 for a pair of the class that has the number, else 0
abbrev pub of_class : ℕ → Pair → ℕ
of_class n p = flag_number (eqb (class_number p) n)

abbrev pub one_clean : Pair → ℕ
one_clean p = of_class 1 p

abbrev pub one_end : Pair → ℕ
one_end p = of_class 2 p

abbrev pub one_grazing : Pair → ℕ
one_grazing p = of_class 3 p

abbrev pub one_apart : Pair → ℕ
one_apart p = of_class 4 p

unfoldable pub total : {X : Type 0} → (X → ℕ) → List X → ℕ
total g [] = 0
total g (x ∷ xs) = g x + total g xs

unfoldable pub counts_of : List Pair → Counts
counts_of ps = record { clean = total one_clean ps; end = total one_end ps; grazing = total one_grazing ps; apart = total one_apart ps }

-- ---- the kept points, each with its mark: 1 clean, 0 grazing

pub record Mark : Type 0 where
  pub point : SphericalPoint
  pub byte : ℕ

abbrev pub marked : ℕ → Option SphericalPoint → Option Mark
marked class none = none
marked class (some p) = some (record { point = p; byte = flag_number (eqb class 1) })

abbrev pub kept_mark : Pair → Option Mark
kept_mark p = marked (class_number p) (kept_point (judged p))

unfoldable pub kept_marks : List Pair → List Mark
unfolding filter_map
kept_marks ps = filter_map kept_mark ps

abbrev pub mark_point : Mark → SphericalPoint
mark_point m = m.point

abbrev pub mark_byte : Mark → ℕ
mark_byte m = m.byte

-- the clean points: the kept points marked 1
abbrev pub clean_point : Mark → Option SphericalPoint
clean_point m = pick (eqb m.byte 1) (some m.point) none

unfoldable pub clean_points : List Mark → List SphericalPoint
unfolding filter_map
clean_points ms = filter_map clean_point ms
