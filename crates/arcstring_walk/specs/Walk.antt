-- Walking a string backwards, restarting a closed one, and the run of vertices between two positions, as docs/TERMS.md has them. Definitions only.
use Rattle.std.specs.Prelude.{Bool, ◌&&◌, List, [], ◌++◌, reverse, ℕ, ◌-◌, ◌*◌, ◌/◌, ◌%◌, length, take, drop, ltb, leb, eqb, Float}
use Rattle.arcstring_check.specs.Answer.{Answer, answered, pick}
use Rattle.arcstring.specs.declared.inner.vertex.Vertex.{Vertex}
use Rattle.arcstring.specs.Points.{numbered, points}
use Rattle.arcstring_check.specs.Check.{lent}

-- vertex k to the last, then 0 to k - 1; an open string, or a position that names no vertex, gives back the same
unfoldable pub restarted : {A : Type 0} → List A → Bool → ℕ → List A
restarted xs closed k = pick (closed && ltb k (length xs)) (drop k xs ++ take k xs) xs

unfoldable pub walk_back : List Float → List ℕ → ℕ → ℕ → Answer (List Vertex)
walk_back v buoys room buoy_room = lent v buoys room buoy_room (answered (reverse (numbered (points v) buoys)))

unfoldable pub restart : List Float → List ℕ → Bool → ℕ → ℕ → ℕ → Answer (List Vertex)
restart v buoys closed k room buoy_room = lent v buoys room buoy_room (answered (restarted (numbered (points v) buoys) closed k))

-- the run of vertices from position a up to, not including, b, as a part of the flat list; the empty part where the positions are out of order or past the end,
-- or the list is not whole triples
unfoldable pub run_of : List Float → ℕ → ℕ → List Float
run_of v a b = pick (eqb (length v % 3) 0 && leb a b && leb b (length v / 3)) (take (3 * b - 3 * a) (drop (3 * a) v)) []
