-- What is claimed of simplified lists. Definitions only. The proofs are `Simplified-again`, `open_never_refused`, `refused_by_five`, `first_vertex_stays` and
-- `simplified_no_longer` of `proofs/Simplified.antt` and `rounds_enough` of `proofs/inner/Rounds.antt`.
use Rattle.std.specs.Prelude.{◌≡◌, Bool, false, List, ℕ, ◌≤◌, length, take}
use Rattle.sphericalpoint.specs.declared.SphericalPoint.{SphericalPoint}
use Rattle.arcstring_check.specs.Answer.{refused, answered}
use Rattle.arcstring_rounds.specs.Rounds.{rounds, simplified}

-- ---- of any list whose elements have a point, `pt`

-- As many rounds as there are vertices are enough: more of them change nothing.
abbrev pub RoundsEnough : Type 1
RoundsEnough =
    (A : Type 0) (pt : A → SphericalPoint) (f g : ℕ) (closed : Bool) (xs : List A) → length xs ≤ f → length xs ≤ g
    → rounds pt f closed xs ≡ rounds pt g closed xs

-- Simplifying a simplified list changes nothing.
abbrev pub SimplifiedAgain : Type 1
SimplifiedAgain =
    (A : Type 0) (pt : A → SphericalPoint) (closed : Bool) (xs ys : List A) → simplified pt closed xs ≡ answered ys → simplified pt closed ys ≡ answered ys

-- An open one is never refused,
abbrev pub OpenNeverRefused : Type 1
OpenNeverRefused = (A : Type 0) (pt : A → SphericalPoint) (xs : List A) → (ys : List A) × (simplified pt false xs ≡ answered ys)

-- and a closed one by 5 or not at all.
abbrev pub RefusedByFive : Type 1
RefusedByFive = (A : Type 0) (pt : A → SphericalPoint) (closed : Bool) (xs : List A) (n : ℕ) → simplified pt closed xs ≡ refused n → n ≡ 5

-- Vertex 0 stays,
abbrev pub FirstVertexStays : Type 1
FirstVertexStays = (A : Type 0) (pt : A → SphericalPoint) (closed : Bool) (xs ys : List A) → simplified pt closed xs ≡ answered ys → take 1 ys ≡ take 1 xs

-- and there are no more vertices than before.
abbrev pub NoLonger : Type 1
NoLonger = (A : Type 0) (pt : A → SphericalPoint) (closed : Bool) (xs ys : List A) → simplified pt closed xs ≡ answered ys → length ys ≤ length xs
