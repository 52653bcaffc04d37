-- What is claimed of normalised points. Definitions only. The proofs are `normalized_is_unit`, `normalized_twice_is_unit`, `vertex_once` and `vertex_twice` of
-- `proofs/UnitLength.antt`, and `normalized_sharp` and `normalized_twice_sharp` of `proofs/WorstPoints.antt`.
use Rattle.std.specs.Prelude.{◌≡◌, ℕ}
use Rattle.sphericalpoint.specs.declared.SphericalPoint.{SphericalPoint}
use Rattle.sphericalpoint.specs.Vector.{normalized}
use Rattle.sphericalpoint.specs.Point.{normalized_unless_short}
use Rattle.unit_length.specs.UnitPoint.{IsF64, InRange, Short, Long, squares, square_of_one, Within, UnitPoint}

-- Every point with coordinates from -1 to 1 whose computed length is not below 3e-11, divided by that length, is from -1 to 1 and of length 1, nearly,
abbrev pub NormalizedIsUnit : Type 0
NormalizedIsUnit = (a : SphericalPoint) → IsF64 a → InRange a → Long a → UnitPoint (normalized a)

-- and so it is once it is normalised again.
abbrev pub NormalizedTwiceIsUnit : Type 0
NormalizedTwiceIsUnit = (a : SphericalPoint) → IsF64 a → InRange a → Long a → UnitPoint (normalized (normalized a))

-- ---- as building normalises

-- What a vertex b is to the point a that it is built from: of length 1, nearly, unless a is short; and then it is a itself.
pub record VertexOf (a b : SphericalPoint) : Type 0 where
  pub long_is_unit : Long a → UnitPoint b
  pub short_stays : Short a → b ≡ a

-- Once, as for an open string,
abbrev pub VertexOnce : Type 0
VertexOnce = (a : SphericalPoint) → IsF64 a → InRange a → VertexOf a (normalized_unless_short a)

-- and twice, as for a closed one.
abbrev pub VertexTwice : Type 0
VertexTwice = (a : SphericalPoint) → IsF64 a → InRange a → VertexOf a (normalized_unless_short (normalized_unless_short a))

-- ---- how sharp this is

-- a point at which 2 ^ -k is too little for what f makes of it
pub record TooLittle (k : ℕ) (f : SphericalPoint → SphericalPoint) : Type 0 where
  pub at : SphericalPoint
  pub is_f64 : IsF64 at
  pub in-range : InRange at
  pub long : Long at
  pub missed : Within k (squares (f at)) square_of_one → ⊥

-- 2 ^ -50 is the least power of two that holds: half the bound above holds too, and a quarter of it does not
pub record Sharp50 (f : SphericalPoint → SphericalPoint) : Type 0 where
  pub half_holds : (a : SphericalPoint) → IsF64 a → InRange a → Long a → Within 50 (squares (f a)) square_of_one
  pub quarter_fails : TooLittle 51 f

-- So it is for a point normalised once,
abbrev pub NormalizedSharp : Type 0
NormalizedSharp = Sharp50 normalized

-- and twice.
abbrev pub NormalizedTwiceSharp : Type 0
NormalizedTwiceSharp = Sharp50 (λ (a : SphericalPoint). normalized (normalized a))
