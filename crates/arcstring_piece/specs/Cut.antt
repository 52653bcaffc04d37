-- Cutting strings at a point, as `split_arcstring_at_points` does it, place by place and leg by leg. Definitions only.
use Rattle.std.specs.Prelude.{false, List, [], ◌∷◌, ◌++◌, map, ℕ, ◌+◌, length, get_or, take, drop, ltb}
use Rattle.sphericalpoint.specs.declared.SphericalPoint.{SphericalPoint}
use Rattle.arcstring_check.specs.Answer.{Answer, answered, pick}
use Rattle.arcstring.specs.Points.{StringOf}
use Rattle.arcstring.specs.Written.{points_in}
use Rattle.arcstring.specs.Leg.{leg_count}
use Rattle.arcstring_along.specs.OnString.{along_leg}
use Rattle.arcstring_insert.specs.Steps.{for_each, for_positions, leg_from, limited}

-- ---- one cut

-- what the first piece of a cut at leg i is built from: the vertices up to the leg's start, and the point
unfoldable pub first_points : {A : Type 0} → A → List A → ℕ → List A
first_points x xs i = take (i + 1) xs ++ (x ∷ [])

-- and the second: the point, and the vertices from the leg's end on; the closing leg's end is vertex 0 alone
unfoldable pub second_points : {A : Type 0} → A → List A → ℕ → List A
second_points x xs i = x ∷ pick (ltb (i + 1) (length xs)) (drop (i + 1) xs) (take 1 xs)

abbrev pub no_string : {A : Type 0} → StringOf A
no_string = record { vertices = []; near = []; closed = false }

-- ---- of strings of any elements: `pt` gives an element's point, and `built` the string that a list of them makes

module _ {A : Type 0} (pt : A → SphericalPoint) (built : List A → StringOf A) where
  -- A cut at leg i of the vertices xs: a new first piece takes place k, and a new second piece stands right after it. Both are built anew.
  -- 3: all pieces together hold over 1,024 points.
  unfoldable pub cut_at : A → List A → ℕ → ℕ → List (StringOf A) → Answer (List (StringOf A))
  cut_at x xs k i ss =
      let cut = take k ss ++ (built (first_points x xs i) ∷ built (second_points x xs i) ∷ drop (k + 1) ss) in
      limited (points_in cut) cut

  -- leg i of the copy that was taken of the string at place k
  unfoldable pub cut_at_leg : A → List A → ℕ → ℕ → List (StringOf A) → Answer (List (StringOf A))
  cut_at_leg x xs k i ss = pick (along_leg (pt x) (leg_from (map pt xs) i)) (cut_at x xs k i ss) (answered ss)

  -- the walk over the legs of the string at place k goes on over its uncut copy after a cut
  unfoldable pub cut_place : A → ℕ → List (StringOf A) → Answer (List (StringOf A))
  cut_place x k ss =
      let copy = get_or ss k no_string in
      for_positions (cut_at_leg x copy.vertices k) 0 (leg_count (length copy.vertices) copy.closed) ss

  -- the number of strings is fixed before the point; a new piece may be visited, and an old one pushed past the last place
  unfoldable pub cut_string : A → List (StringOf A) → Answer (List (StringOf A))
  cut_string x ss = for_positions (cut_place x) 0 (length ss) ss

  -- one string, cut at each of the elements in turn
  unfoldable pub cut_all : List A → StringOf A → Answer (List (StringOf A))
  cut_all extra s = for_each cut_string extra (s ∷ [])
