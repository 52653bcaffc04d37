-- What is claimed of near lists. Definitions only. The proof is `near_backwards` of `proofs/NearEntries.antt`.
use Rattle.std.specs.Prelude.{◌≡◌, List, reverse}
use Rattle.sphericalpoint.specs.declared.SphericalPoint.{SphericalPoint}
use Rattle.arcstring_along.specs.OnString.{near_some}

-- A near list walked backwards gives the same verdict.
abbrev pub NearBackwards : Type 0
NearBackwards = (p : SphericalPoint) (es : List SphericalPoint) → near_some p (reverse es) ≡ near_some p es
