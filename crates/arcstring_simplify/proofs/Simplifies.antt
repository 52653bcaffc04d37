-- The call that simplifies a stored string, by the positions that are left. Assumes nothing.
use Rattle.std.proofs.lemmas.Bool.{cases_lt}
use mathlib.Core.Logic.{inl, inr}
use mathlib.Core.Path.{◌≡◌, sym, ap, ◌∙◌}
use mathlib.Core.Bool.{Bool}
use mathlib.Core.List.{List, ◌++◌, map, map-map}
use Prim.Native.Nat.{ℕ, ◌*◌, ◌/◌, ◌≤◌}
use lib.ListN.{length, take, drop, length-map}
use lib.Seq.{length-take-le}
use lib.Ieee.{Float}
use Rattle.arcstring_check.specs.declared.check.Refusal.{Refusal}
use Rattle.arcstring_check.specs.Answer.{Answer, refused, answered, unless_refused, map_answer, and_then, refusal_number}
use Rattle.arcstring.specs.declared.inner.vertex.Vertex.{Vertex}
use Rattle.arcstring.specs.Points.{place_of, flat, point_at}
use Rattle.arcstring.specs.Positions.{positions_from, buoy_at, vertex_at}
use Rattle.arcstring_check.specs.Check.{string_check, room_check, rooms_check, into_rooms, lent}
use Rattle.arcstring_check.proofs.Answers.{in-turn, pass, stopped, went_on}
use Rattle.arcstring_check.proofs.Checks.{stored_whole, string-stored, as_many_buoys}
use Rattle.arcstring_check.proofs.Rooms.{no_room, room_enough, room_lacks}
use Rattle.arcstring.proofs.Written.{Leaves, left_refused, left_written}
use Rattle.arcstring_rounds.specs.Rounds.{simplified}
use Rattle.arcstring_simplify.specs.Simplify.{simplify}
use Rattle.arcstring_rounds.proofs.Left.{left_vertices}

-- the second of two buffers is too short, whether the first is or not
second_lacked : {A : Type 0} (e : Refusal) (m k n l : ℕ) (x : Answer A) → refusal_number e ≡ room_check n l
    → refused (refusal_number e) ≡ unless_refused (room_check m k) (unless_refused (room_check n l) x)
second_lacked e m k n l x told =
    elim (cases_lt k m) [
      | inl both ↦ stopped e _ _ (told ∙ no_room n l (room_lacks e n l told) ∙ sym (no_room m k both))
      | inr fits ↦ stopped e _ _ told ∙ went_on _ _ (sym (room_enough m k fits))
    ]

module _ (v : List Float) (bs : List ℕ) (closed : Bool) (old : List Float) (old_buoys : List ℕ) where
  abbrev Done : Answer (List Vertex)
  Done = simplify v bs closed (length old) (length old_buoys)

  -- refused by the vertices
  pub simplify_refused : (e : Refusal) → refusal_number e ≡ string_check v bs → Leaves old old_buoys Done (refused (refusal_number e)) old old_buoys
  unfolding simplify lent
  simplify_refused e told = left_refused old old_buoys Done (refusal_number e) (stopped e _ _ told)

  module _ (accepted : string_check v bs ≡ 0) where
    -- what the rounds answer
    done_by : (a : Answer (List ℕ)) → a ≡ simplified (point_at v) closed (positions_from 0 (length v / 3))
        → and_then (map_answer (map (vertex_at v bs)) a) (into_rooms (length old) (length old_buoys)) ≡ Done
    unfolding simplify lent
    done_by a rounds =
        let whole : length v ≡ 3 * (length v / 3) = (stored_whole v (string-stored v bs accepted)).triples in
        ap (λ (x : Answer (List Vertex)). and_then x (into_rooms (length old) (length old_buoys)))
        (ap (map_answer (map (vertex_at v bs))) rounds ∙ left_vertices v closed whole bs (as_many_buoys v bs accepted))
        ∙ sym (pass (string_check v bs) _ accepted)

    pub simplify_past_end : (r : ℕ) → refused r ≡ simplified (point_at v) closed (positions_from 0 (length v / 3))
        → Leaves old old_buoys Done (refused r) old old_buoys
    simplify_past_end r rounds = left_refused old old_buoys Done r (done_by (refused r) rounds)

    -- n positions are left, at the start of `at`
    module _ (n : ℕ) (at : List ℕ) (room : n ≤ length at)
        (rounds : answered (take n at) ≡ simplified (point_at v) closed (positions_from 0 (length v / 3))) where
      abbrev vs : List Vertex
      vs = map (vertex_at v bs) (take n at)

      long : length vs ≡ n
      long = length-map (take n at) (vertex_at v bs) ∙ length-take-le n at room

      by_rooms : unless_refused (room_check (3 * n) (length old)) (unless_refused (room_check n (length old_buoys)) (answered vs)) ≡ Done
      unfolding into_rooms rooms_check
      by_rooms =
          sym (in-turn (room_check (3 * n) (length old)) (room_check n (length old_buoys)) (answered vs))
          ∙ ap (λ (m : ℕ). unless_refused (rooms_check m (length old) (length old_buoys)) (answered vs)) (sym long)
          ∙ done_by (answered (take n at)) rounds

      pub simplify_no_room : (e : Refusal) → refusal_number e ≡ room_check (3 * n) (length old)
          → Leaves old old_buoys Done (refused (refusal_number e)) old old_buoys
      simplify_no_room e told = left_refused old old_buoys Done (refusal_number e) (stopped e _ _ told ∙ by_rooms)

      pub simplify_no_buoy_room : (e : Refusal) → refusal_number e ≡ room_check n (length old_buoys)
          → Leaves old old_buoys Done (refused (refusal_number e)) old old_buoys
      simplify_no_buoy_room e told =
          left_refused old old_buoys Done (refusal_number e) (second_lacked e (3 * n) (length old) n (length old_buoys) _ told ∙ by_rooms)

      pub simplify_done : 0 ≡ room_check (3 * n) (length old) → (out : List Float) (out_buoys : List ℕ) → 0 ≡ room_check n (length old_buoys)
          → out ≡ flat (map (point_at v) (take n at)) ++ drop (3 * length (take n at)) old
          → out_buoys ≡ map (buoy_at bs) (take n at) ++ drop (length (take n at)) old_buoys
          → Leaves old old_buoys Done (answered n) out out_buoys
      simplify_done fits out out_buoys fits' w u =
          let l : length (take n at) ≡ n = length-take-le n at room in
          left_written old old_buoys Done vs n (map (point_at v) (take n at)) (map (buoy_at bs) (take n at)) out out_buoys
          (went_on _ _ fits' ∙ went_on _ _ fits ∙ by_rooms) long
          (map-map place_of (vertex_at v bs) (take n at)) (map-map (λ (x : Vertex). x.buoy) (vertex_at v bs) (take n at))
          (w ∙ ap (λ (m : ℕ). flat (map (point_at v) (take n at)) ++ drop (3 * m) old) l)
          (u ∙ ap (λ (m : ℕ). map (buoy_at bs) (take n at) ++ drop m old_buoys) l)
