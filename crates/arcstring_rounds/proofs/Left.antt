-- The positions that are left by the rounds, what stands there, and the points alone simplified by them. Assumes nothing.
use Rattle.std.specs.Prelude.{Result, Ok, Err}
use mathlib.Core.Path.{◌≡◌, refl, sym, ap, subst, ◌∙◌}
use mathlib.Core.Bool.{Bool}
use mathlib.Core.List.{List, ◌++◌, map}
use Prim.Native.Nat.{ℕ, ◌+◌, ◌*◌, ◌/◌, ◌≤◌}
use native.Mathlib.Omega.{arith}
use lib.ListN.{length, take, drop, length-map}
use lib.Seq.{length-take-le, take_at, take-append-le}
use lib.Ieee.{Float}
use Rattle.sphericalpoint.specs.declared.SphericalPoint.{SphericalPoint}
use Rattle.arcstring_check.specs.declared.check.Refusal.{Refusal}
use Rattle.arcstring_check.specs.Answer.{Answer, refused, answered, unless_refused, map_answer, and_then, leaves, refusal_number}
use Rattle.arcstring.specs.Points.{itself, numbered, place_of, points, flat, point_at}
use Rattle.arcstring.specs.Positions.{Within, positions_from, vertex_at}
use Rattle.arcstring_check.specs.Check.{stored_check, room_check, into_room}
use Rattle.arcstring.specs.Written.{written_result, written_floats}
use Rattle.arcstring.specs.Work.{held, held_count}
use Rattle.arcstring_check.proofs.Answers.{stopped, went_on}
use Rattle.arcstring_check.proofs.Checks.{stored_whole}
use Rattle.arcstring.proofs.Flat.{length-flat}
use Rattle.arcstring.proofs.Moves.{length_positions}
use Rattle.arcstring.proofs.Numbered.{all_point_positions, within_positions}
use Rattle.arcstring_rounds.specs.Rounds.{simplified, simplify_points}
use Rattle.arcstring_rounds.proofs.Natural.{map-simplified, at_positions}
use Rattle.arcstring_rounds.proofs.inner.RoundSteps.{simplified-within}

-- ---- all positions, before the first round

module _ (n : ℕ) (old at : List ℕ) (wrote : at ≡ positions_from 0 n ++ drop n old) where
  fresh : take n at ≡ positions_from 0 n
  fresh = ap (take n) wrote ∙ take_at (positions_from 0 n) (drop n old) n (length_positions 0 n)

  pub fresh_within : Within n (take n at)
  fresh_within = let z : 0 + n ≡ n = omega arith in subst (λ (xs : List ℕ). Within n xs) (sym fresh) (rw z at (within_positions 0 n))

  pub fresh_rounds : (pt : ℕ → SphericalPoint) (closed : Bool) (a : Answer (List ℕ)) → a ≡ simplified pt closed (take n at)
      → a ≡ simplified pt closed (positions_from 0 n)
  fresh_rounds pt closed a h = h ∙ ap (simplified pt closed) fresh

-- the rounds worked on the first positions of a longer list
pub held_front : {A : Type 0} (left : Result ℕ Refusal) (front rest : List A) → held_count left ≤ length front → held left (front ++ rest) ≡ held left front
held_front (Ok n) front rest h = ap answered (take-append-le n front rest h)
held_front (Err e) front rest h = refl

-- ---- the positions that are left

module _ (v : List Float) (closed : Bool) where
  -- each is a vertex of the string
  pub left-within : (ys : List ℕ) → answered ys ≡ simplified (point_at v) closed (positions_from 0 (length v / 3)) → Within (length v / 3) ys
  left-within ys rounds =
      let z : 0 + length v / 3 ≡ length v / 3 = omega arith in
      simplified-within (length v / 3) (point_at v) closed (positions_from 0 (length v / 3)) ys (sym rounds) (rw z at (within_positions 0 (length v / 3)))

  -- what stands there is the simplified string
  module _ (whole : length v ≡ 3 * (length v / 3)) where
    pub left_vertices : (bs : List ℕ) → length bs ≡ length v / 3
        → map_answer (map (vertex_at v bs)) (simplified (point_at v) closed (positions_from 0 (length v / 3)))
        ≡ simplified place_of closed (numbered (points v) bs)
    left_vertices bs same = at_positions v bs closed whole same

    pub left-points : map_answer (map (point_at v)) (simplified (point_at v) closed (positions_from 0 (length v / 3))) ≡ simplified itself closed (points v)
    left-points =
        map-simplified (point_at v) (point_at v) itself (λ i. refl) closed (positions_from 0 (length v / 3))
        ∙ ap (simplified itself closed) (all_point_positions v (length v / 3) whole)

-- ---- the points alone

module _ (v : List Float) (closed : Bool) (old : List Float) where
  abbrev DonePoints : Answer (List SphericalPoint)
  DonePoints = simplify_points v closed (length old)

  abbrev Answers : Answer ℕ → List Float → Type 0
  Answers r out = (r ≡ written_result DonePoints) × (out ≡ leaves (written_floats DonePoints) old)

  by_answer : (a : Answer (List SphericalPoint)) → a ≡ DonePoints → Answers (written_result a) (leaves (written_floats a) old)
  by_answer a h = (ap written_result h, ap (λ (b : Answer (List SphericalPoint)). leaves (written_floats b) old) h)

  -- refused by the vertices
  pub points_refused : (e : Refusal) → refusal_number e ≡ stored_check v → Answers (refused (refusal_number e)) old
  unfolding simplify_points
  points_refused e told = by_answer (refused (refusal_number e)) (stopped e _ _ told)

  module _ (accepted : 0 ≡ stored_check v) where
    -- what the rounds answer
    done_points : (a : Answer (List ℕ)) → a ≡ simplified (point_at v) closed (positions_from 0 (length v / 3))
        → and_then (map_answer (map (point_at v)) a) (into_room (length old)) ≡ DonePoints
    unfolding simplify_points
    done_points a rounds =
        ap (λ (x : Answer (List SphericalPoint)). and_then x (into_room (length old)))
        (ap (map_answer (map (point_at v))) rounds ∙ left-points v closed (stored_whole v (sym accepted)).triples) ∙ went_on _ _ accepted

    pub points_past_end : (r : ℕ) → refused r ≡ simplified (point_at v) closed (positions_from 0 (length v / 3)) → Answers (refused r) old
    points_past_end r rounds = by_answer (refused r) (done_points (refused r) rounds)

    -- n positions are left, at the start of `at`
    module _ (n : ℕ) (at : List ℕ) (room : n ≤ length at)
        (rounds : answered (take n at) ≡ simplified (point_at v) closed (positions_from 0 (length v / 3))) where
      abbrev ps : List SphericalPoint
      ps = map (point_at v) (take n at)

      count : length ps ≡ n
      count = length-map (take n at) (point_at v) ∙ length-take-le n at room

      by_room : unless_refused (room_check (3 * n) (length old)) (answered ps) ≡ DonePoints
      unfolding into_room
      by_room = ap (λ (m : ℕ). unless_refused (room_check (3 * m) (length old)) (answered ps)) (sym count) ∙ done_points (answered (take n at)) rounds

      pub points_no_room : (e : Refusal) → refusal_number e ≡ room_check (3 * n) (length old) → Answers (refused (refusal_number e)) old
      points_no_room e told = by_answer (refused (refusal_number e)) (stopped e _ _ told ∙ by_room)

      pub points_done : (out : List Float) → 0 ≡ room_check (3 * n) (length old) → out ≡ flat ps ++ drop (3 * length (take n at)) old → Answers (answered n) out
      points_done out told w =
          let done = by_answer (answered ps) (went_on _ _ told ∙ by_room) in
          let l : 3 * length (take n at) ≡ length (flat ps) = omega (arith, length-flat ps, count, length-take-le n at room) in
          (ap answered (sym count) ∙ done.0, w ∙ ap (λ (m : ℕ). flat ps ++ drop m old) l ∙ done.1)
