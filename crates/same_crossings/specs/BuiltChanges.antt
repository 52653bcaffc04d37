-- What is claimed of built strings whose points stand in reverse, and of strings that trade places: their counts are the same. Of the counts alone, for
-- points of any floats and at any margin: nothing has to be accepted. Definitions only. The proofs are `builds_in_reverse`, `built_reversed` and
-- `strings_trade` of `proofs/BuiltChanges.antt`.
use Rattle.std.specs.Prelude.{◌≡◌, true, false, List, map, reverse, ℕ, ◌-◌, length, get_or, Float}
use Rattle.sphericalpoint.specs.declared.SphericalPoint.{SphericalPoint}
use Rattle.sphericalpoint.specs.Point.{normalized_unless_short}
use Rattle.arcstring.specs.Points.{ArcString, no_point}
use Rattle.arcstring_build.specs.Build.{built_string}
use Rattle.arcstring_walk.specs.Walk.{restarted}
use Rattle.arcstring_pair.specs.declared.pair.Pair.{Pair}
use Rattle.arcstring.specs.Leg.{legs}
use Rattle.arcstring_tally.specs.Pairs.{pairs_between, counts_of}
use Rattle.same_crossings.specs.Changes.{point_value}

-- ---- when points in reverse build to the same string in reverse

-- the vertex that point k becomes in a closed string: normalised twice
abbrev pub corner_of : List SphericalPoint → ℕ → SphericalPoint
corner_of ps k = normalized_unless_short (normalized_unless_short (get_or ps k no_point))

-- A string closes where its first and last points are nearly equal, and then the last is dropped; of the points in reverse that is the first. So nothing is
-- lost where both become the same vertex in value, as they do if they are the same point. Of an open string nothing is asked.
abbrev pub ClosesOnItself : List SphericalPoint → Type 0
ClosesOnItself ps = (built_string ps).closed ≡ true → point_value (corner_of ps 0) ≡ point_value (corner_of ps (length ps - 1))

-- The flag is always the same. The vertices of an open string stand in reverse; those of a closed one that closes on itself stand in reverse from vertex 0
-- on, in value.
pub record BuiltInReverse (ps : List SphericalPoint) : Type 0 where
  pub same_flag : (built_string (reverse ps)).closed ≡ (built_string ps).closed
  pub open_vertices : (built_string ps).closed ≡ false → (built_string (reverse ps)).vertices ≡ reverse (built_string ps).vertices
  pub closed_vertices : (built_string ps).closed ≡ true → ClosesOnItself ps
      → map point_value (built_string (reverse ps)).vertices ≡ map point_value (reverse (restarted (built_string ps).vertices true 1))

abbrev pub BuildsInReverse : Type 0
BuildsInReverse = (ps : List SphericalPoint) → BuiltInReverse ps

-- ---- the counts

-- every leg of the first string with every leg of the second, at a margin
abbrev pub pairs_of_strings : Float → ArcString → ArcString → List Pair
pairs_of_strings margin s t = pairs_between margin (legs s.vertices s.closed) (legs t.vertices t.closed)

abbrev pub BuiltReversed : Type 0
BuiltReversed =
    (margin : Float) (ps : List SphericalPoint) → ClosesOnItself ps → (t : ArcString)
    → counts_of (pairs_of_strings margin (built_string (reverse ps)) t) ≡ counts_of (pairs_of_strings margin (built_string ps) t)

abbrev pub StringsTrade : Type 0
StringsTrade = (margin : Float) (s t : ArcString) → counts_of (pairs_of_strings margin t s) ≡ counts_of (pairs_of_strings margin s t)
