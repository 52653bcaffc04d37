-- A string walked backwards holds the same marks, and so does one restarted at any position: for any floats. Definitions only. The proofs are in
-- `proofs/SameMarks.antt`.
use Rattle.std.specs.Prelude.{◌≡◌, Bool, List, reverse, ℕ}
use Rattle.sphericalpoint.specs.declared.SphericalPoint.{SphericalPoint}
use Rattle.arcstring_walk.specs.Walk.{restarted}
use Rattle.arcstring_mark.specs.Mark.{mark_on_string}

-- open or closed
abbrev pub BackwardsHolds : Type 0
BackwardsHolds = (p : SphericalPoint) (ps : List SphericalPoint) (closed : Bool) → mark_on_string p (reverse ps) closed ≡ mark_on_string p ps closed

-- an open string that is restarted, and a closed one at a position that names no vertex, is the same string
abbrev pub RestartedHolds : Type 0
RestartedHolds =
    (p : SphericalPoint) (ps : List SphericalPoint) (closed : Bool) (k : ℕ) → mark_on_string p (restarted ps closed k) closed ≡ mark_on_string p ps closed
