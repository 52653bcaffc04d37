-- What is claimed of built strings: how long their vertices are, and that no later call refuses them. Definitions only. The proofs are `built_vertices_lem`,
-- `built_accepted` and `flagged_accepted` of `proofs/BuiltAccepted.antt`.
use Rattle.std.specs.Prelude.{◌≡◌, Bool, List, ℕ, ◌<◌, T, length, get_or, Float}
use Rattle.std.specs.Float.{nan, binary64}
use Rattle.std.specs.Float.Ieee.{fits}
use Rattle.unit_length.specs.UnitLaws.{VertexOf}
use Rattle.arcstring_check.specs.Answer.{answered}
use Rattle.arcstring.specs.declared.inner.vertex.Vertex.{Vertex}
use Rattle.arcstring.specs.Points.{StringOf, ArcString, unnumbered, points, flat, point_at, no_point}
use Rattle.arcstring_check.specs.Check.{stored_check, build_check}
use Rattle.arcstring_build.specs.Build.{built_string, build, build_flagged}

-- each float of a list is an `f64`, as it is in every list that a call is lent; past the end a NaN stands for it, which is one too
abbrev pub AllF64 : List Float → Type 0
AllF64 v = (i : ℕ) → T (fits binary64 (get_or v i nan))

-- Of every list that is not refused: vertex k is built from point k, and so of length 1, nearly, unless that point's computed length is below 3e-11. Then the
-- vertex is the point, with its coordinates from -1 to 1 as they were.
abbrev pub BuiltVertices : Type 0
BuiltVertices = (v : List Float) → AllF64 v → build_check v ≡ 0 → (k : ℕ) → k < length (built_string (points v)).vertices
    → VertexOf (point_at v k) (get_or (built_string (points v)).vertices k no_point)

-- the vertices and the near list pass the checks of a stored string: no 1, 3 or 4 comes
pub record Stored (s : ArcString) : Type 0 where
  pub vertices_stored : stored_check (flat s.vertices) ≡ 0
  pub near_stored : stored_check (flat s.near) ≡ 0

-- Whatever is built is accepted,
abbrev pub BuiltAccepted : Type 0
BuiltAccepted =
    (v : List Float) → AllF64 v → (buoys : List ℕ) (room buoy_room : ℕ) (s : StringOf Vertex)
    → build v buoys room buoy_room ≡ answered s → Stored (unnumbered s)

-- with a given flag too.
abbrev pub FlaggedAccepted : Type 0
FlaggedAccepted =
    (v : List Float) → AllF64 v → (buoys : List ℕ) (flag : Bool) (room buoy_room : ℕ) (s : StringOf Vertex)
    → build_flagged v buoys flag room buoy_room ≡ answered s → Stored (unnumbered s)
