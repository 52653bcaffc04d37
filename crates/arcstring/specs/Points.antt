-- A flat list of floats as points, three floats to a point, and back; points that carry the numbers of buoys; and strings of either. Definitions only.
use Rattle.std.specs.Prelude.{Bool, List, [], ◌∷◌, map, ℕ, ◌+◌, ◌*◌, get_or, Float}
use Rattle.std.specs.Float.{nan}
use Rattle.sphericalpoint.specs.declared.SphericalPoint.{SphericalPoint}
use Rattle.arcstring.specs.declared.inner.vertex.Vertex.{Vertex}

abbrev pub point : Float → Float → Float → SphericalPoint
point x y z = record { x = x; y = y; z = z }

-- the whole triples of a list; one or two floats that are left over are no point
abbrev pub points : List Float → List SphericalPoint
points [] = []
points (x ∷ []) = []
points (x ∷ y ∷ []) = []
points (x ∷ y ∷ z ∷ v) = point x y z ∷ points v

abbrev pub flat : List SphericalPoint → List Float
flat [] = []
flat (p ∷ ps) = p.x ∷ p.y ∷ p.z ∷ flat ps

-- vertex k of a flat list
abbrev pub point_at : List Float → ℕ → SphericalPoint
point_at v k = point (get_or v (3 * k) nan) (get_or v (3 * k + 1) nan) (get_or v (3 * k + 2) nan)

-- where a list of points has no point k
abbrev pub no_point : SphericalPoint
no_point = point nan nan nan

-- ---- vertices that carry the number of a buoy

-- points and numbers side by side, as many as there are of both
abbrev pub numbered : List SphericalPoint → List ℕ → List Vertex
numbered [] bs = []
numbered (p ∷ ps) [] = []
numbered (p ∷ ps) (b ∷ bs) = record { place = p; buoy = b } ∷ numbered ps bs

abbrev pub place_of : Vertex → SphericalPoint
place_of x = x.place

-- a point for itself: the definitions that ask for an element's point take this where there are no numbers
abbrev pub itself : SphericalPoint → SphericalPoint
itself p = p

-- the vertices without their numbers, and the numbers alone
abbrev pub places_of : List Vertex → List SphericalPoint
places_of vs = map place_of vs

abbrev pub buoys_of : List Vertex → List ℕ
buoys_of vs = map (λ (x : Vertex). x.buoy) vs

-- ---- strings

-- A stored string: its vertices, with numbers or without, its near list and its flag.
pub record StringOf (A : Type 0) : Type 0 where
  pub vertices : List A
  pub near : List SphericalPoint
  pub closed : Bool

abbrev pub ArcString : Type 0
ArcString = StringOf SphericalPoint

-- the numbers taken off
abbrev pub unnumbered : StringOf Vertex → ArcString
unnumbered s = record { vertices = places_of s.vertices; near = s.near; closed = s.closed }

-- The Rust's clone: the copy's near list is made anew, of its own vertices; the original keeps its own.
unfoldable pub copied : ArcString → ArcString
copied s = record { vertices = s.vertices; near = s.vertices; closed = s.closed }
