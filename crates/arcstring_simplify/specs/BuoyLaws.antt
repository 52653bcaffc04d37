-- What is claimed of the numbers that vertices carry, for simplifying. Definitions only. The proofs are in `proofs/SimplifiesWithout.antt`.
use Rattle.std.specs.Prelude.{◌≡◌, Bool, List, map, ℕ, ◌/◌, length, Float}
use Rattle.arcstring_check.specs.Answer.{map_answer}
use Rattle.arcstring.specs.Points.{itself, points, point_at}
use Rattle.arcstring.specs.Positions.{positions_from, vertex_at}
use Rattle.arcstring_check.specs.Check.{lent}
use Rattle.arcstring.specs.Written.{without_buoys}
use Rattle.arcstring_rounds.specs.Rounds.{simplified}
use Rattle.arcstring_simplify.specs.Simplify.{simplify}

-- the numbers taken off: simplifying over points, after the same checks
abbrev pub SimplifyWithout : Type 0
SimplifyWithout =
    (v : List Float) (buoys : List ℕ) (closed : Bool) (room buoy_room : ℕ)
    → without_buoys (simplify v buoys closed room buoy_room) ≡ lent v buoys room buoy_room (simplified itself closed (points v))

-- the vertices and numbers written are those at the positions that are kept, which the points alone give
abbrev pub SimplifyKeeps : Type 0
SimplifyKeeps =
    (v : List Float) (buoys : List ℕ) (closed : Bool) (room buoy_room : ℕ)
    → simplify v buoys closed room buoy_room
    ≡ lent v buoys room buoy_room (map_answer (map (vertex_at v buoys)) (simplified (point_at v) closed (positions_from 0 (length v / 3))))
