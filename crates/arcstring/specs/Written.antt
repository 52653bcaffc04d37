-- What a call that writes vertices, or the pieces of a string, answers, and what it writes. Definitions only.
use Rattle.std.specs.Prelude.{List, [], ◌∷◌, ◌++◌, map, ℕ, ◌+◌, length, Float}
use Rattle.sphericalpoint.specs.declared.SphericalPoint.{SphericalPoint}
use Rattle.arcstring.specs.declared.inner.vertex.Vertex.{Vertex}
use Rattle.arcstring_check.specs.Answer.{Answer, map_answer}
use Rattle.arcstring.specs.Points.{StringOf, places_of, buoys_of, flat}

-- how many vertices
abbrev pub written_result : {A : Type 0} → Answer (List A) → Answer ℕ
written_result a = map_answer length a

abbrev pub written_floats : Answer (List SphericalPoint) → Answer (List Float)
written_floats a = map_answer flat a

-- what is answered without the numbers, and the numbers alone
abbrev pub without_buoys : Answer (List Vertex) → Answer (List SphericalPoint)
without_buoys a = map_answer places_of a

abbrev pub written_buoys : Answer (List Vertex) → Answer (List ℕ)
written_buoys a = map_answer buoys_of a

-- ---- pieces: how many points they have together, and what is written of them: vertices, numbers, counts

abbrev pub points_in : {A : Type 0} → List (StringOf A) → ℕ
points_in [] = 0
points_in (s ∷ ss) = length s.vertices + points_in ss

abbrev pub piece_floats : List (StringOf Vertex) → List Float
piece_floats [] = []
piece_floats (s ∷ ss) = flat (places_of s.vertices) ++ piece_floats ss

abbrev pub piece_buoys : List (StringOf Vertex) → List ℕ
piece_buoys [] = []
piece_buoys (s ∷ ss) = buoys_of s.vertices ++ piece_buoys ss

abbrev pub piece_counts : {A : Type 0} → List (StringOf A) → List ℕ
piece_counts {A} ss = map (λ (s : StringOf A). length s.vertices) ss
