-- Inserting never depends on the numbers: without them it is inserting over points, and what is written stands at positions that the points alone give.
-- Assumes nothing.
use mathlib.Core.Path.{◌≡◌, sym, ap, ap₂, ◌∙◌}
use mathlib.Core.Bool.{Bool}
use mathlib.Core.List.{List, ◌∷◌, ◌++◌, map, map-append}
use Prim.Native.Nat.{ℕ, zero, suc, ◌+◌, ◌*◌, ◌/◌}
use native.Mathlib.Omega.{arith}
use lib.ListN.{length, take, drop, length-map, length-append}
use lib.Seq.{take_at, drop_at}
use lib.Ieee.{Float}
use Rattle.sphericalpoint.specs.declared.SphericalPoint.{SphericalPoint}
use Rattle.arcstring.specs.declared.inner.vertex.Vertex.{Vertex}
use Rattle.arcstring_check.specs.Answer.{unless_refused}
use Rattle.arcstring.specs.Points.{itself, numbered, place_of, places_of, points}
use Rattle.arcstring.specs.Positions.{positions_from, vertex_at}
use Rattle.arcstring_check.specs.Check.{points_check, lent}
use Rattle.arcstring.specs.Written.{without_buoys}
use Rattle.arcstring_check.proofs.Answers.{map_unless, where_passed}
use Rattle.arcstring_check.proofs.Checks.{stored_whole, string-stored, as_many_buoys, points_buoys, points_whole}
use Rattle.arcstring.proofs.Flat.{count_points, length-points, points-append}
use Rattle.arcstring.proofs.Moves.{length_positions}
use Rattle.arcstring.proofs.Numbered.{all_places, all_positions, length-numbered, numbered-append}
use Rattle.arcstring.proofs.WithoutBuoys.{map-lent, lent_where, lent_alike, points_alike, lent_places}
use Rattle.arcstring_insert.specs.Insert.{inserted, insert_vertices}
use Rattle.arcstring_insert.specs.BuoyLaws.{InsertWithout, InsertKeeps}
use Rattle.arcstring_insert.proofs.Natural.{map-inserted}

-- ---- accepted points

-- without their numbers
pub points_places : (extra : List Float) (es : List ℕ) → points_check extra es ≡ 0 → places_of (numbered (points extra) es) ≡ points extra
points_places extra es h = all_places (points extra) es (points_buoys extra es h ∙ sym (count_points extra))

-- ---- without the numbers

pub insert_without : InsertWithout
unfolding insert_vertices
insert_without v bs closed extra es room buoy_room =
    let xs = numbered (points v) bs in
    let ys = numbered (points extra) es in
    map-lent place_of v bs room buoy_room (unless_refused (points_check extra es) (inserted place_of closed ys xs))
    ∙ lent_where v bs room buoy_room _ _
    (λ h. map_unless places_of (points_check extra es) (inserted place_of closed ys xs)
    ∙ where_passed (points_check extra es) _ _
    (λ k. map-inserted place_of itself closed ys xs ∙ ap₂ (inserted itself closed) (points_places extra es k) (lent_places v bs h)))

-- strings and points alike but for the values of their numbers get the same answer and vertices
pub insert_alike : (v : List Float) (bs cs : List ℕ) (closed : Bool) (extra : List Float) (es fs : List ℕ) (room buoy_room : ℕ)
    → length bs ≡ length cs → length es ≡ length fs
    → without_buoys (insert_vertices v bs closed extra es room buoy_room) ≡ without_buoys (insert_vertices v cs closed extra fs room buoy_room)
insert_alike v bs cs closed extra es fs room buoy_room same likewise =
    insert_without v bs closed extra es room buoy_room
    ∙ lent_alike v bs cs room buoy_room _ same
    ∙ ap (λ (n : ℕ). lent v cs room buoy_room (unless_refused n (inserted itself closed (points extra) (points v)))) (points_alike extra es fs likewise)
    ∙ sym (insert_without v cs closed extra fs room buoy_room)

-- ---- positions

-- those of two lists one after another
positions_join : (k m n : ℕ) → positions_from k (m + n) ≡ positions_from k m ++ positions_from (k + m) n
positions_join k zero n =
    let e : 0 + n ≡ n = omega arith in
    let z : k + 0 ≡ k = omega arith in
    rw (e, z)
positions_join k (suc m) n =
    let e : suc m + n ≡ suc (m + n) = omega arith in
    let z : k + suc m ≡ suc k + m = omega arith in
    rw (e, z) (ap (λ (at : List ℕ). k ∷ at) (positions_join (suc k) m n))

module _ (v : List Float) (bs : List ℕ) (n : ℕ) (whole : length v ≡ 3 * n) (same : length bs ≡ n)
    (extra : List Float) (es : List ℕ) (m : ℕ) (whole' : length extra ≡ 3 * m) (same' : length es ≡ m) where
  abbrev at : ℕ → Vertex
  at = vertex_at (v ++ extra) (bs ++ es)

  both : map at (positions_from 0 n) ++ map at (positions_from n m) ≡ numbered (points v) bs ++ numbered (points extra) es
  both =
      let z : 0 + n ≡ n = omega arith in
      sym
      (ap (map at) (positions_join 0 n m ∙ ap (λ (k : ℕ). positions_from 0 n ++ positions_from k m) z)
      ∙ map-append at (positions_from 0 n) (positions_from n m))
      ∙ all_positions (v ++ extra) (bs ++ es) (n + m) (omega (arith, length-append v extra)) (omega (arith, length-append bs es))
      ∙ ap (λ (ps : List SphericalPoint). numbered ps (bs ++ es)) (points-append n v extra whole)
      ∙ numbered-append (points v) (points extra) bs es (length-points n v whole ∙ sym same)

  first_long : length (map at (positions_from 0 n)) ≡ n
  first_long = length-map (positions_from 0 n) at ∙ length_positions 0 n

  vertices_long : length (numbered (points v) bs) ≡ n
  vertices_long = length-numbered (points v) bs (same ∙ sym (length-points n v whole)) ∙ length-points n v whole

  -- the positions of the vertices, and of the points
  vertex_positions : map at (positions_from 0 n) ≡ numbered (points v) bs
  vertex_positions =
      sym (take_at (map at (positions_from 0 n)) (map at (positions_from n m)) n first_long) ∙ ap (take n) both
      ∙ take_at (numbered (points v) bs) (numbered (points extra) es) n vertices_long

  point_positions : map at (positions_from n m) ≡ numbered (points extra) es
  point_positions =
      sym (drop_at (map at (positions_from 0 n)) (map at (positions_from n m)) n first_long) ∙ ap (drop n) both
      ∙ drop_at (numbered (points v) bs) (numbered (points extra) es) n vertices_long

-- ---- what is written

pub insert_keeps : InsertKeeps
unfolding insert_vertices
insert_keeps v bs closed extra es room buoy_room =
    let n = length v / 3 in
    let m = length extra / 3 in
    lent_where v bs room buoy_room _ _
    (λ h. where_passed (points_check extra es) _ _
    (λ k. let whole = (stored_whole v (string-stored v bs h)).triples in
    let whole' = (points_whole extra es k).triples in
    sym
    (map-inserted (vertex_at (v ++ extra) (bs ++ es)) place_of closed (positions_from n m) (positions_from 0 n)
    ∙ ap₂ (inserted place_of closed) (point_positions v bs n whole (as_many_buoys v bs h) extra es m whole' (points_buoys extra es k))
    (vertex_positions v bs n whole (as_many_buoys v bs h) extra es m whole' (points_buoys extra es k)))))
