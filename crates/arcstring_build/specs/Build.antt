-- Building a string from points, as `MultiSphericalPoint::try_from`, `ArcString::try_from` and `try_new` do. Definitions only.
use Rattle.std.specs.Prelude.{Bool, List, map, ℕ, ◌-◌, length, get_or, take, Float}
use Rattle.sphericalpoint.specs.declared.SphericalPoint.{SphericalPoint}
use Rattle.sphericalpoint.specs.Vector.{xyz_eq}
use Rattle.sphericalpoint.specs.Point.{normalized_unless_short}
use Rattle.arcstring_check.specs.Answer.{Answer, answered, unless_refused, map_answer, pick}
use Rattle.arcstring.specs.declared.inner.vertex.Vertex.{Vertex}
use Rattle.arcstring.specs.Points.{numbered, places_of, buoys_of, StringOf, ArcString, points, flat, no_point}
use Rattle.arcstring_check.specs.Check.{building_check, rooms_check}

-- each point divided by its length, unless that is below 3e-11
abbrev pub normalized_all : List SphericalPoint → List SphericalPoint
normalized_all ps = map normalized_unless_short ps

-- whether first and last are `xyz_eq`
unfoldable pub ends_meet : List SphericalPoint → Bool
ends_meet ps = xyz_eq (get_or ps 0 no_point) (get_or ps (length ps - 1) no_point)

-- What is built of a list, `norm` normalising each of it: all of it, once; and where first and last then meet, the last dropped and the rest normalised a
-- second time.
abbrev pub built_of : {A : Type 0} → (A → A) → Bool → List A → List A
built_of norm meet xs =
    let once = map norm xs in
    pick meet (map norm (take (length once - 1) once)) once

-- ---- of points

unfoldable pub built_vertices : List SphericalPoint → List SphericalPoint
built_vertices ps = built_of normalized_unless_short (ends_meet (normalized_all ps)) ps

-- The string: closed where the ends met, and its near list is its vertices.
unfoldable pub built_string : List SphericalPoint → ArcString
built_string ps = record { vertices = built_vertices ps; near = built_vertices ps; closed = ends_meet (normalized_all ps) }

-- ---- of vertices that carry numbers: the geometry is that of their points

-- a vertex keeps its number as its point is normalised
abbrev pub normalized_vertex : Vertex → Vertex
normalized_vertex x = record { place = normalized_unless_short x.place; buoy = x.buoy }

unfoldable pub built_numbered : List Vertex → StringOf Vertex
built_numbered vs =
    let s = built_string (places_of vs) in
    record { vertices = built_of normalized_vertex s.closed vs; near = s.near; closed = s.closed }

-- ---- the calls

-- a given flag replaces only the flag
unfoldable pub flagged : {A : Type 0} → Bool → StringOf A → StringOf A
flagged flag s = record { vertices = s.vertices; near = s.near; closed = flag }

-- the checks of a build into buffers of so many floats and numbers, and the string if none refuses
unfoldable pub build_into : {A : Type 0} → List Float → List ℕ → ℕ → ℕ → StringOf A → Answer (StringOf A)
build_into v buoys room buoy_room s = unless_refused (building_check v buoys) (unless_refused (rooms_check (length s.vertices) room buoy_room) (answered s))

unfoldable pub build : List Float → List ℕ → ℕ → ℕ → Answer (StringOf Vertex)
build v buoys room buoy_room = build_into v buoys room buoy_room (built_numbered (numbered (points v) buoys))

unfoldable pub build_flagged : List Float → List ℕ → Bool → ℕ → ℕ → Answer (StringOf Vertex)
build_flagged v buoys flag room buoy_room = build_into v buoys room buoy_room (flagged flag (built_numbered (numbered (points v) buoys)))

-- ---- what is answered, and what is written

-- how many vertices, and the flag
abbrev pub built_result : {A : Type 0} → Answer (StringOf A) → Answer (ℕ × Bool)
built_result {A} a = map_answer (λ (s : StringOf A). (length s.vertices, s.closed)) a

abbrev pub built_floats : Answer (StringOf Vertex) → Answer (List Float)
built_floats a = map_answer (λ (s : StringOf Vertex). flat (places_of s.vertices)) a

abbrev pub built_buoys : Answer (StringOf Vertex) → Answer (List ℕ)
built_buoys a = map_answer (λ (s : StringOf Vertex). buoys_of s.vertices) a
