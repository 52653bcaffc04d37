-- What is claimed of the numbers that vertices carry, for splitting. Definitions only. The proofs are `split_without` and `cut_buoys` of
-- `proofs/SplitsWithout.antt`.
use Rattle.std.specs.Prelude.{◌≡◌, Bool, List, [], ℕ, length, take, Float}
use Rattle.arcstring_check.specs.Answer.{map_answer}
use Rattle.arcstring.specs.declared.inner.vertex.Vertex.{Vertex}
use Rattle.arcstring.specs.Points.{buoys_of, places_of, itself, unnumbered, copied, points}
use Rattle.arcstring_build.specs.Build.{built_string, built_numbered}
use Rattle.arcstring_along.specs.OnString.{stored}
use Rattle.arcstring_split_leg.specs.SplitLeg.{each_piece}
use Rattle.arcstring_piece.specs.Cut.{first_points, second_points, cut_all}
use Rattle.arcstring_split.specs.Split.{split_into, split_string}

-- ---- the numbers taken off: the call over points, after the same checks

-- the pieces' vertices, near lists and flags
abbrev pub SplitWithout : Type 0
SplitWithout =
    (v : List Float) (buoys : List ℕ) (closed : Bool) (extra : List Float) (extra_buoys : List ℕ) (room buoy_room counts_room flags_room : ℕ)
    → map_answer (each_piece unnumbered) (split_string v buoys closed extra extra_buoys room buoy_room counts_room flags_room)
    ≡ split_into v buoys extra extra_buoys room buoy_room counts_room flags_room (cut_all itself built_string (points extra) (copied (stored v [] closed)))

-- ---- the numbers written

-- The numbers of the two pieces of a cut: the point's own number stands at the end of the first list and at the start of the second, and a piece that closes
-- drops the last of its list.
pub record CutBuoys : Type 0 where
  pub first : (x : Vertex) (vs : List Vertex) (i : ℕ)
      → buoys_of (built_numbered (first_points x vs i)).vertices
      ≡ take (length (built_string (places_of (first_points x vs i))).vertices) (first_points x.buoy (buoys_of vs) i)
  pub second : (x : Vertex) (vs : List Vertex) (i : ℕ)
      → buoys_of (built_numbered (second_points x vs i)).vertices
      ≡ take (length (built_string (places_of (second_points x vs i))).vertices) (second_points x.buoy (buoys_of vs) i)
