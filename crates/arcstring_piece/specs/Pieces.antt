-- Pieces as they stand at the start of lists that are worked on: for the contracts of inner functions. Definitions only.
use Rattle.std.specs.Prelude.{◌≡◌, Bool, true, not, ◌&&◌, List, [], ◌∷◌, ℕ, ◌+◌, ◌*◌, ◌≤◌, length, take, drop, eqb, Float}
use Rattle.arcstring.specs.declared.inner.vertex.Vertex.{Vertex}
use Rattle.arcstring.specs.Points.{StringOf, numbered, places_of, points}
use Rattle.arcstring_check.specs.Check.{most_points}

-- room for the vertices of both pieces of a cut
abbrev pub built_room : ℕ
built_room = 2 * (most_points + 1)

-- a built piece: its near list is its vertices
abbrev pub piece : List Vertex → Bool → StringOf Vertex
piece vs closed = record { vertices = vs; near = places_of vs; closed = closed }

-- pieces by their counts and whether they are closed, one after another
unfoldable pub pieces_of : List ℕ → List Bool → List Vertex → List (StringOf Vertex)
pieces_of [] flags vs = []
pieces_of (c ∷ counts) [] vs = []
pieces_of (c ∷ counts) (f ∷ flags) vs = piece (take c vs) f ∷ pieces_of counts flags (drop c vs)

abbrev pub sum : List ℕ → ℕ
sum [] = 0
sum (n ∷ ns) = n + sum ns

-- no piece is empty
abbrev pub all_some : List ℕ → Bool
all_some [] = true
all_some (n ∷ ns) = not (eqb n 0) && all_some ns

-- the first m pieces of lists that are worked on: vertices, their numbers, counts and flags
unfoldable pub first_pieces : ℕ → List Float → List ℕ → List ℕ → List Bool → List (StringOf Vertex)
first_pieces m v buoys counts flags = pieces_of (take m counts) (take m flags) (numbered (points v) buoys)

-- Room for m pieces: none of them empty, at most 1,024 points together, and so at most 1,024 pieces.
pub record Stands (m : ℕ) (v : List Float) (buoys counts : List ℕ) (flags : List Bool) : Type 0 where
  pub floats : length v ≡ 3 * most_points
  pub buoys_room : length buoys ≡ most_points
  pub counts-room : length counts ≡ most_points
  pub flags-room : length flags ≡ most_points
  pub pieces : m ≤ most_points
  pub some : all_some (take m counts) ≡ true
  pub limit : sum (take m counts) ≤ most_points
