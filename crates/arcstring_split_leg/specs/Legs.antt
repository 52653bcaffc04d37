-- Points taken two by two, as the legs of a split leg stand in a local list, and how many it holds: for the contracts of inner functions. Definitions only.
use Rattle.std.specs.Prelude.{List, [], ◌∷◌, ℕ}
use Rattle.sphericalpoint.specs.declared.SphericalPoint.{SphericalPoint}
use Rattle.arcstring.specs.Leg.{Leg, leg}

-- the most legs of two points each that a list of points holds
abbrev pub most_legs : ℕ
most_legs = 512

-- points taken two by two
unfoldable pub legs_of : List SphericalPoint → List Leg
legs_of [] = []
legs_of (p ∷ []) = []
legs_of (p ∷ q ∷ ps) = leg p q ∷ legs_of ps
