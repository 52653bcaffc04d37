-- Positions of vertices: what code moves in place of the vertices, each standing for the vertex and the number at that place of the lent lists.
-- Definitions only.
use Rattle.std.specs.Prelude.{List, [], ◌∷◌, ℕ, zero, suc, ◌<◌, length, get_or, Float}
use Rattle.arcstring.specs.declared.inner.vertex.Vertex.{Vertex}
use Rattle.arcstring.specs.Points.{point_at}

-- every position is one of n
abbrev pub Within : ℕ → List ℕ → Type 0
Within n at = (i : ℕ) → i < length at → get_or at i 0 < n

-- so many positions from k on
abbrev pub positions_from : ℕ → ℕ → List ℕ
positions_from k zero = []
positions_from k (suc n) = k ∷ positions_from (suc k) n

abbrev pub buoy_at : List ℕ → ℕ → ℕ
buoy_at buoys i = get_or buoys i 0

-- the vertex at a position
abbrev pub vertex_at : List Float → List ℕ → ℕ → Vertex
vertex_at v buoys i = record { place = point_at v i; buoy = buoy_at buoys i }
