-- What is claimed of the numbers that built vertices carry. Geometry never depends on them: with the numbers taken off, building is the one over points, after
-- the
-- same checks; and each number goes where its vertex goes. Definitions only. The proofs are in `proofs/BuildsWithout.antt`.
use Rattle.std.specs.Prelude.{◌≡◌, Bool, List, ℕ, ◌*◌, ◌/◌, ◌≤◌, length, take, Float}
use Rattle.arcstring_check.specs.Answer.{answered, unless_refused, map_answer}
use Rattle.arcstring.specs.declared.inner.vertex.Vertex.{Vertex}
use Rattle.arcstring.specs.Points.{StringOf, ArcString, places_of, buoys_of, unnumbered, points}
use Rattle.arcstring_check.specs.Check.{build_check, room_check}
use Rattle.arcstring_build.specs.Build.{built_string, built_numbered, flagged, build_into, build, build_flagged, built_buoys}

-- ---- the numbers taken off

-- vertices, near list and flag
abbrev pub BuildWithout : Type 0
BuildWithout =
    (v : List Float) (buoys : List ℕ) (room buoy_room : ℕ)
    → map_answer unnumbered (build v buoys room buoy_room) ≡ build_into v buoys room buoy_room (built_string (points v))

abbrev pub FlaggedWithout : Type 0
FlaggedWithout =
    (v : List Float) (buoys : List ℕ) (flag : Bool) (room buoy_room : ℕ)
    → map_answer unnumbered (build_flagged v buoys flag room buoy_room) ≡ build_into v buoys room buoy_room (flagged flag (built_string (points v)))

-- ---- as many numbers as points, and a number's room for every vertex's: the checks are those of the points alone

abbrev pub BuildAlone : Type 1
BuildAlone =
    (A : Type 0) (v : List Float) (buoys : List ℕ) (room buoy_room : ℕ) (s : StringOf A) → length buoys ≡ length v / 3 → room ≤ 3 * buoy_room
    → build_into v buoys room buoy_room s ≡ unless_refused (build_check v) (unless_refused (room_check (3 * length s.vertices) room) (answered s))

-- ---- the numbers written: those of the vertices that are kept, which are the first

abbrev pub BuiltBuoys : Type 0
BuiltBuoys = (vs : List Vertex) → buoys_of (built_numbered vs).vertices ≡ take (length (built_string (places_of vs)).vertices) (buoys_of vs)

abbrev pub BuildBuoys : Type 0
BuildBuoys =
    (v : List Float) (buoys : List ℕ) (room buoy_room : ℕ)
    → built_buoys (build v buoys room buoy_room)
    ≡ map_answer (λ (s : ArcString). take (length s.vertices) buoys) (build_into v buoys room buoy_room (built_string (points v)))
