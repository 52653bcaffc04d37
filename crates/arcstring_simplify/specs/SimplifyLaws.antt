-- What is claimed of simplified strings, and of the call, which changes nothing of what it has written. Definitions only. The proofs are
-- `simplified_accepted` of `proofs/SimplifiedAccepted.antt` and `simplify_twice` of `proofs/SimplifiedTwice.antt`. What holds of any list is in
-- `RoundLaws` of arcstring_rounds.
use Rattle.std.specs.Prelude.{◌≡◌, Bool, List, ℕ, ◌*◌, ◌≤◌, length, Float}
use Rattle.sphericalpoint.specs.declared.SphericalPoint.{SphericalPoint}
use Rattle.arcstring_check.specs.Answer.{answered}
use Rattle.arcstring.specs.declared.inner.vertex.Vertex.{Vertex}
use Rattle.arcstring.specs.Points.{itself, places_of, buoys_of, points, flat}
use Rattle.arcstring_check.specs.Check.{stored_check}
use Rattle.arcstring_rounds.specs.Rounds.{simplified}
use Rattle.arcstring_simplify.specs.Simplify.{simplify}

-- The simplified vertices of an accepted string are accepted again: no 1, 3 or 4 comes.
abbrev pub SimplifiedAccepted : Type 0
SimplifiedAccepted =
    (v : List Float) (closed : Bool) (ps : List SphericalPoint) → stored_check v ≡ 0 → simplified itself closed (points v) ≡ answered ps
    → stored_check (flat ps) ≡ 0

-- What the call has written, vertices, numbers and flag, it answers again, into every room that holds it.
abbrev pub SimplifyTwice : Type 0
SimplifyTwice =
    (v : List Float) (buoys : List ℕ) (closed : Bool) (room buoy_room : ℕ) (vs : List Vertex) → simplify v buoys closed room buoy_room ≡ answered vs
    → (r s : ℕ) → 3 * length vs ≤ r → length vs ≤ s → simplify (flat (places_of vs)) (buoys_of vs) closed r s ≡ answered vs
