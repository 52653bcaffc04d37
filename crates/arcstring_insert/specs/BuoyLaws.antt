-- What is claimed of the numbers that vertices carry, for inserting. Definitions only. The proofs are `insert_without` and `insert_keeps` of
-- `proofs/InsertsWithout.antt`.
use Rattle.std.specs.Prelude.{◌≡◌, Bool, List, ◌++◌, map, ℕ, ◌/◌, length, Float}
use Rattle.arcstring_check.specs.Answer.{unless_refused, map_answer}
use Rattle.arcstring.specs.Points.{itself, points, point_at}
use Rattle.arcstring.specs.Positions.{positions_from, vertex_at}
use Rattle.arcstring_check.specs.Check.{points_check, lent}
use Rattle.arcstring.specs.Written.{without_buoys}
use Rattle.arcstring_insert.specs.Insert.{inserted, insert_vertices}

-- ---- the numbers taken off: the call over points, after the same checks

abbrev pub InsertWithout : Type 0
InsertWithout =
    (v : List Float) (buoys : List ℕ) (closed : Bool) (extra : List Float) (extra_buoys : List ℕ) (room buoy_room : ℕ)
    → without_buoys (insert_vertices v buoys closed extra extra_buoys room buoy_room)
    ≡ lent v buoys room buoy_room (unless_refused (points_check extra extra_buoys) (inserted itself closed (points extra) (points v)))

-- ---- the numbers written

-- The vertices and numbers written are those at positions that the points alone give, in the vertices and the points put in one after another: a point put
-- in has a position past the vertices, and brings the number there.
abbrev pub InsertKeeps : Type 0
InsertKeeps =
    (v : List Float) (buoys : List ℕ) (closed : Bool) (extra : List Float) (extra_buoys : List ℕ) (room buoy_room : ℕ)
    → insert_vertices v buoys closed extra extra_buoys room buoy_room
    ≡ lent v buoys room buoy_room
    (unless_refused (points_check extra extra_buoys)
    (map_answer (map (vertex_at (v ++ extra) (buoys ++ extra_buoys)))
    (inserted (point_at (v ++ extra)) closed (positions_from (length v / 3) (length extra / 3)) (positions_from 0 (length v / 3)))))
