-- What is claimed of the numbers that walked vertices carry. Geometry never depends on them: with the numbers taken off, each call is the one over points,
-- after
-- the same checks; and each number goes where its vertex goes. Definitions only. The proofs are in `proofs/WalksWithout.antt`.
use Rattle.std.specs.Prelude.{◌≡◌, Bool, List, reverse, ℕ, Float}
use Rattle.arcstring_check.specs.Answer.{answered}
use Rattle.arcstring.specs.Points.{points}
use Rattle.arcstring_check.specs.Check.{lent}
use Rattle.arcstring.specs.Written.{without_buoys, written_buoys}
use Rattle.arcstring_walk.specs.Walk.{restarted, walk_back, restart}

-- ---- the numbers taken off

abbrev pub BackWithout : Type 0
BackWithout =
    (v : List Float) (buoys : List ℕ) (room buoy_room : ℕ)
    → without_buoys (walk_back v buoys room buoy_room) ≡ lent v buoys room buoy_room (answered (reverse (points v)))

abbrev pub RestartWithout : Type 0
RestartWithout =
    (v : List Float) (buoys : List ℕ) (closed : Bool) (k room buoy_room : ℕ)
    → without_buoys (restart v buoys closed k room buoy_room) ≡ lent v buoys room buoy_room (answered (restarted (points v) closed k))

-- ---- the numbers written: reversed, rotated

abbrev pub BackBuoys : Type 0
BackBuoys =
    (v : List Float) (buoys : List ℕ) (room buoy_room : ℕ)
    → written_buoys (walk_back v buoys room buoy_room) ≡ lent v buoys room buoy_room (answered (reverse buoys))

abbrev pub RestartBuoys : Type 0
RestartBuoys =
    (v : List Float) (buoys : List ℕ) (closed : Bool) (k room buoy_room : ℕ)
    → written_buoys (restart v buoys closed k room buoy_room) ≡ lent v buoys room buoy_room (answered (restarted buoys closed k))
