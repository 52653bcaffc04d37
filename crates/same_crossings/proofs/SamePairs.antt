-- Two lists of pairs that are the same by class and by the clean points' values, each as often, have the same four counts and the same clean points.
-- And the pairs of two strings, and of one with itself, are such lists where legs are turned, put in another order or traded. Assumes nothing.
use mathlib.Core.Path.{◌≡◌, refl, sym, ap, ap₂, ◌∙◌}
use mathlib.Core.List.Permᴰ
use mathlib.Core.List.{List, [], ◌∷◌, ◌++◌, map, reverse, filter_map, map-append, map-map, Permᴰ}
use mathlib.Core.Option.{Option, none, some}
use Prim.Native.Nat.{ℕ, ◌+◌}
use lib.ListN.{drop}
use lib.Ieee.{Float}
use Rattle.ieee754.specs.Value.{float}
use Rattle.ieee754.proofs.ByValue.{value-float}
use Rattle.sphericalpoint.specs.declared.SphericalPoint.{SphericalPoint}
use Rattle.sphericalpoint.specs.Point.{normalized_unless_short}
use Rattle.arcstring.specs.Points.{point, no_point}
use Rattle.arcstring_pair.specs.declared.pair.Pair.{Pair}
use Rattle.arcstring_pair.specs.declared.pair.Pair.TheVariants.{Clean, End, Grazing, Apart}
use Rattle.arcstring_pair.specs.declared.pair.Outcome.{Outcome}
use Rattle.arcstring_pair.specs.declared.pair.Outcome.TheVariants.{None}
use Rattle.arcstring.specs.Leg.{Leg}
use Rattle.arcstring_pair.specs.Pair.{pair_of}
use Rattle.arcstring_tally.specs.Pairs.{pairs_between, pairs_within, one_clean, one_end, one_grazing, one_apart, total, counts_of, kept_marks, clean_points}
use Rattle.same_crossings.specs.CountLaws.{point_of_clean}
use Rattle.same_crossings.specs.Changes.{PointValue, point_value}
use Rattle.sphericalpoint.proofs.VectorValues.{like, Same}
use Rattle.same_crossings.proofs.PointValues.{same_point}
use Rattle.same_crossings.proofs.NormalValues.{same_normalized}
use Rattle.same_crossings.proofs.LegLists.{turned}
use Rattle.same_crossings.proofs.TurnedLegs.{PairValue, clean_at, end_class, grazing_class, apart_class, pair_value, first_turned, second_turned}
use Rattle.same_crossings.proofs.TurnedLegs.{legs_traded, first_alike}
use Rattle.same_crossings.proofs.PairOrders.{same_order, map_same, total_order, grid, grid_order, grid_turned, grid_traded, spaced, spaced_turned}
use Rattle.same_crossings.proofs.PairOrders.{spaced_reversed}
use Rattle.same_crossings.proofs.Counting.{clean_points_are_clean_pairs}

-- a point, and a pair, that has the value
abbrev point_of : PointValue → SphericalPoint
point_of v = point (float v.x) (float v.y) (float v.z)

abbrev pair_with : PairValue → Pair
pair_with (clean_at v) = Clean (point_of v)
pair_with end_class = End no_point
pair_with grazing_class = Grazing None
pair_with apart_class = Apart

abbrev pub SamePairs : List Pair → List Pair → Type 0
SamePairs ps qs = Permᴰ (map pair_value ps) (map pair_value qs)

-- ---- the counts

-- a number that sees nothing but the class of a pair
module _ (f : Pair → ℕ) (c : (p q : SphericalPoint) → f (Clean p) ≡ f (Clean q)) (e : (p q : SphericalPoint) → f (End p) ≡ f (End q))
    (g : (o r : Outcome) → f (Grazing o) ≡ f (Grazing r)) where
  number_of : (p : Pair) → f (pair_with (pair_value p)) ≡ f p
  number_of (Clean p) = c (point_of (point_value p)) p
  number_of (End p) = e no_point p
  number_of (Grazing o) = g None o
  number_of Apart = refl

  total_values : (ps : List Pair) → total (λ (v : PairValue). f (pair_with v)) (map pair_value ps) ≡ total f ps
  unfolding total
  total_values [] = refl
  total_values (p ∷ ps) = ap₂ ◌+◌ (number_of p) (total_values ps)

  total_same : (ps qs : List Pair) → SamePairs ps qs → total f ps ≡ total f qs
  total_same ps qs d = sym (total_values ps) ∙ total_order (λ (v : PairValue). f (pair_with v)) d ∙ total_values qs

pub counts_same : (ps qs : List Pair) → SamePairs ps qs → counts_of ps ≡ counts_of qs
unfolding counts_of
counts_same ps qs d =
    λ i. record {
      clean = total_same one_clean (λ p q. refl) (λ p q. refl) (λ o r. refl) ps qs d i;
      end = total_same one_end (λ p q. refl) (λ p q. refl) (λ o r. refl) ps qs d i;
      grazing = total_same one_grazing (λ p q. refl) (λ p q. refl) (λ o r. refl) ps qs d i;
      apart = total_same one_apart (λ p q. refl) (λ p q. refl) (λ o r. refl) ps qs d i;
    }

-- ---- the clean points

abbrev value_of_clean : PairValue → Option PointValue
value_of_clean (clean_at v) = some v
value_of_clean end_class = none
value_of_clean grazing_class = none
value_of_clean apart_class = none

clean_values : (ps : List Pair) → map point_value (filter_map point_of_clean ps) ≡ filter_map value_of_clean (map pair_value ps)
unfolding filter_map
clean_values [] = refl
clean_values (Clean p ∷ ps) = ap (λ (l : List PointValue). point_value p ∷ l) (clean_values ps)
clean_values (End p ∷ ps) = clean_values ps
clean_values (Grazing o ∷ ps) = clean_values ps
clean_values (Apart ∷ ps) = clean_values ps

pub clean_same : (ps qs : List Pair) → SamePairs ps qs → Permᴰ (map point_value (clean_points (kept_marks ps))) (map point_value (clean_points (kept_marks qs)))
clean_same ps qs d =
    Permᴰ.trans (same_order (ap (map point_value) (clean_points_are_clean_pairs ps) ∙ clean_values ps))
    (Permᴰ.trans (Permᴰ.filter_map value_of_clean d) (same_order (sym (ap (map point_value) (clean_points_are_clean_pairs qs) ∙ clean_values qs))))

-- the clean points normalised: normalising sees the values alone
abbrev normal_value : PointValue → PointValue
normal_value v = point_value (normalized_unless_short (point_of v))

normal-value : (p : SphericalPoint) → point_value (normalized_unless_short p) ≡ normal_value (point_value p)
normal-value p =
    same_point (same_normalized (record {
      x = like (sym (value-float (point_value p).x));
      y = like (sym (value-float (point_value p).y));
      z = like
          (sym (value-float (point_value p).z));
    }))

normal_values : (ps : List SphericalPoint) → map point_value (map normalized_unless_short ps) ≡ map normal_value (map point_value ps)
normal_values ps =
    map-map point_value normalized_unless_short ps
    ∙ map_same (λ (p : SphericalPoint). point_value (normalized_unless_short p)) (λ (p : SphericalPoint). normal_value (point_value p)) normal-value ps
    ∙ sym (map-map normal_value point_value ps)

pub normalized_same : (ps qs : List SphericalPoint) → Permᴰ (map point_value ps) (map point_value qs)
    → Permᴰ (map point_value (map normalized_unless_short ps)) (map point_value (map normalized_unless_short qs))
normalized_same ps qs d =
    Permᴰ.trans (same_order (normal_values ps)) (Permᴰ.trans (Permᴰ.map normal_value d) (same_order (sym (normal_values qs))))

-- legs whose ends have the same values, one by one
pub data AllAlike : List Leg → List Leg → Type 0 where
  no_legs : AllAlike [] []
  one_more_lem : {c a : Leg} {ls ks : List Leg} → Same c.from a.from → Same c.to a.to → AllAlike ls ks → AllAlike (c ∷ ls) (a ∷ ks)

-- ---- two strings, at a margin

module _ (margin : Float) where
  abbrev class_and_point : Leg → Leg → PairValue
  class_and_point a b = pair_value (pair_of margin a b)

  between_values : (ls ms : List Leg) → map pair_value (pairs_between margin ls ms) ≡ grid class_and_point ls ms
  unfolding pairs_between
  between_values [] ms = refl
  between_values (a ∷ ls) ms =
      map-append pair_value (map (pair_of margin a) ms) (pairs_between margin ls ms)
      ∙ ap₂ ◌++◌ (map-map pair_value (pair_of margin a) ms) (between_values ls ms)

  module _ (ls ks ms : List Leg) where
    by_values : (ns : List Leg) → Permᴰ (grid class_and_point ls ms) (grid class_and_point ks ns)
        → SamePairs (pairs_between margin ls ms) (pairs_between margin ks ns)
    by_values ns d = Permᴰ.trans (same_order (between_values ls ms)) (Permᴰ.trans d (same_order (sym (between_values ks ns))))

    pub legs_in_order : Permᴰ ls ks → SamePairs (pairs_between margin ls ms) (pairs_between margin ks ms)
    legs_in_order d = by_values ms (grid_order class_and_point ms d)

    pub legs_turned : Permᴰ ls (map turned ks) → SamePairs (pairs_between margin ls ms) (pairs_between margin ks ms)
    legs_turned d = by_values ms (Permᴰ.trans (grid_order class_and_point ms d) (same_order (grid_turned class_and_point turned (first_turned margin) ks ms)))

  grid_alike : {ls ks : List Leg} (ms : List Leg) → AllAlike ls ks → grid class_and_point ls ms ≡ grid class_and_point ks ms
  grid_alike ms no_legs = refl
  grid_alike ms (one_more_lem {c} {a} from to alike) =
      ap₂ ◌++◌ (map_same (class_and_point c) (class_and_point a) (λ (b : Leg). first_alike margin a c b from to) ms) (grid_alike ms alike)

  pub legs_alike : (ls ks ms : List Leg) → AllAlike ls ks → SamePairs (pairs_between margin ls ms) (pairs_between margin ks ms)
  legs_alike ls ks ms alike = by_values ls ks ms ms (same_order (grid_alike ms alike))

  pub strings_traded : (ls ms : List Leg) → SamePairs (pairs_between margin ms ls) (pairs_between margin ls ms)
  strings_traded ls ms = by_values ms ls ls ms (grid_traded class_and_point (legs_traded margin) ls ms)

  -- ---- a string with itself

  within_values : (ls : List Leg) → map pair_value (pairs_within margin ls) ≡ spaced class_and_point ls
  unfolding pairs_within
  within_values [] = refl
  within_values (a ∷ ls) =
      map-append pair_value (map (pair_of margin a) (drop 1 ls)) (pairs_within margin ls) ∙ ap₂ ◌++◌ (map-map pair_value (pair_of margin a) (drop 1 ls))
      (within_values ls)

  pub within_backwards : (ls : List Leg) → SamePairs (pairs_within margin (reverse (map turned ls))) (pairs_within margin ls)
  within_backwards ls =
      Permᴰ.trans (same_order (within_values (reverse (map turned ls))))
      (Permᴰ.trans (spaced_reversed class_and_point (legs_traded margin) (map turned ls))
      (same_order (spaced_turned class_and_point turned (first_turned margin) (second_turned margin) ls ∙ sym (within_values ls))))
