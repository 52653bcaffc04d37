-- What inserting into a string answers, and both buffers after it, from the checks and from what the steps did; finished vertices handed over. Assumes nothing.
use mathlib.Core.Path.{◌≡◌, refl, sym, ap, subst, ◌∙◌}
use mathlib.Core.Bool.{Bool}
use mathlib.Core.List.{List, ◌++◌}
use Prim.Native.Nat.{ℕ, zero, suc, ◌*◌, ◌/◌, ◌≤◌}
use lib.ListN.{length, take, drop}
use lib.Seq.{length-take-le}
use lib.Ieee.{Float}
use Rattle.arcstring_check.specs.declared.check.Refusal.{Refusal}
use Rattle.arcstring.specs.declared.inner.vertex.Vertex.{Vertex}
use Rattle.arcstring_check.specs.Answer.{Answer, refused, answered, unless_refused, and_then, refusal_number}
use Rattle.arcstring.specs.Points.{numbered, place_of, points}
use Rattle.arcstring.specs.Splice.{splice}
use Rattle.arcstring_check.specs.Check.{string_check, points_check, room_check, rooms_check, into_rooms, lent}
use Rattle.arcstring.specs.Work.{first_of_list}
use Rattle.arcstring_check.proofs.Answers.{in-turn as both-in-turn, stopped, went_on}
use Rattle.arcstring.proofs.Splices.{splice_front}
use Rattle.arcstring.proofs.Written.{Leaves, left_refused, left_written}
use Rattle.arcstring_insert.specs.Insert.{inserted, insert_vertices}
use Rattle.arcstring_insert.proofs.Inserted.{first_vertices, first_floats, places_first, buoys_first, length_vertices, vertices_copied}
use Rattle.arcstring_insert.proofs.BothChecks.{Both}

-- ---- finished vertices handed over

module _ (n : ℕ) (w : List Float) (bs : List ℕ) (old : List Float) (old_buoys : List ℕ) (room : 3 * n ≤ length w) (many : n ≤ length bs) where
  abbrev handed : Answer (List Vertex)
  handed = into_rooms (length old) (length old_buoys) (first_vertices n w bs)

  long : length (first_vertices n w bs) ≡ n
  long = length_vertices n w bs room many

  by_rooms : unless_refused (room_check (3 * n) (length old)) (unless_refused (room_check n (length old_buoys)) (answered (first_vertices n w bs))) ≡ handed
  unfolding into_rooms rooms_check
  by_rooms =
      sym (both-in-turn (room_check (3 * n) (length old)) (room_check n (length old_buoys)) (answered (first_vertices n w bs)))
      ∙ ap (λ (m : ℕ). unless_refused (rooms_check m (length old) (length old_buoys)) (answered (first_vertices n w bs))) (sym long)

  pub handed_no_room : (e : Refusal) → refusal_number e ≡ room_check (3 * n) (length old)
      → Leaves old old_buoys handed (refused (refusal_number e)) old old_buoys
  handed_no_room e told = left_refused old old_buoys handed (refusal_number e) (stopped e _ _ told ∙ by_rooms)

  module _ (fits : 0 ≡ room_check (3 * n) (length old)) where
    pub handed_no_buoy_room : (e : Refusal) → refusal_number e ≡ room_check n (length old_buoys)
        → Leaves old old_buoys handed (refused (refusal_number e)) old old_buoys
    handed_no_buoy_room e told = left_refused old old_buoys handed (refusal_number e) (stopped e _ _ told ∙ went_on _ _ fits ∙ by_rooms)

    pub handed_vertices : (out : List Float) (out_buoys : List ℕ) → 0 ≡ room_check n (length old_buoys)
        → out ≡ splice old 0 (take (3 * n) w) → out_buoys ≡ splice old_buoys 0 (take n bs) → Leaves old old_buoys handed (answered n) out out_buoys
    handed_vertices out out_buoys fits' copied likewise =
        left_written old old_buoys handed (first_vertices n w bs) n (first_of_list n w) (take n bs) out out_buoys
        (went_on _ _ fits' ∙ went_on _ _ fits ∙ by_rooms)
        long
        (places_first n w bs room many)
        (buoys_first n w bs room many)
        (copied ∙ splice_front old (3 * n) (take (3 * n) w) (length-take-le (3 * n) w room)
        ∙ ap (λ (v : List Float). v ++ drop (3 * n) old) (sym (first_floats w n room)))
        (likewise ∙ splice_front old_buoys n (take n bs) (length-take-le n bs many))

-- ---- the call

-- a check before what comes first is one before both
then_unless : {A B : Type 0} (n : ℕ) (a : Answer A) (f : A → Answer B) → and_then (unless_refused n a) f ≡ unless_refused n (and_then a f)
then_unless zero a f = refl
then_unless (suc n) a f = refl

module _ (v : List Float) (bs : List ℕ) (closed : Bool) (extra : List Float) (es : List ℕ) (old : List Float) (old_buoys : List ℕ) where
  abbrev answer : Answer (List Vertex)
  answer = insert_vertices v bs closed extra es (length old) (length old_buoys)

  abbrev steps : Answer (List Vertex)
  steps = inserted place_of closed (numbered (points extra) es) (numbered (points v) bs)

  abbrev rooms : List Vertex → Answer (List Vertex)
  rooms = into_rooms (length old) (length old_buoys)

  in-turn : unless_refused (string_check v bs) (unless_refused (points_check extra es) (and_then steps rooms)) ≡ answer
  unfolding insert_vertices lent
  in-turn = ap (unless_refused (string_check v bs)) (sym (then_unless (points_check extra es) steps rooms))

  -- vertices and numbers copied to w and cs, and what putting the points in there answered
  pub steps_there : (blank w : List Float) (blanks cs : List ℕ) (a : Answer (List Vertex)) → Both v bs extra es
      → 3 * (length v / 3) ≤ length w → length v / 3 ≤ length cs
      → w ≡ splice blank 0 (take (3 * (length v / 3)) v) → cs ≡ splice blanks 0 (take (length v / 3) bs)
      → a ≡ inserted place_of closed (numbered (points extra) es) (first_vertices (length v / 3) w cs) → a ≡ steps
  steps_there blank w blanks cs a both room many copied likewise put =
      put
      ∙ ap (inserted place_of closed (numbered (points extra) es))
      (vertices_copied (length v / 3) v blank w bs blanks cs both.vertices.triples both.numbers room many copied likewise)

  -- refused by the vertices
  pub refused_string : (e : Refusal) → refusal_number e ≡ string_check v bs → Leaves old old_buoys answer (refused (refusal_number e)) old old_buoys
  refused_string e told = left_refused old old_buoys answer (refusal_number e) (stopped e _ _ told ∙ in-turn)

  module _ (accepted : 0 ≡ string_check v bs) where
    past_string : unless_refused (points_check extra es) (and_then steps rooms) ≡ answer
    past_string = went_on _ _ accepted ∙ in-turn

    -- by the points
    pub refused_points : (e : Refusal) → refusal_number e ≡ points_check extra es → Leaves old old_buoys answer (refused (refusal_number e)) old old_buoys
    refused_points e told = left_refused old old_buoys answer (refusal_number e) (stopped e _ _ told ∙ past_string)

    module _ (accepted' : 0 ≡ points_check extra es) where
      past_points : (a : Answer (List Vertex)) → a ≡ steps → and_then a rooms ≡ answer
      past_points a told = ap (λ (b : Answer (List Vertex)). and_then b rooms) told ∙ went_on _ _ accepted' ∙ past_string

      -- by an insertion
      pub refused_step : (r : ℕ) → refused r ≡ steps → Leaves old old_buoys answer (refused r) old old_buoys
      refused_step r told = left_refused old old_buoys answer r (past_points (refused r) told)

      -- vs stands then, and what handing it over answers and leaves
      pub written_insert : (vs : List Vertex) (r : Answer ℕ) (out : List Float) (out_buoys : List ℕ) → answered vs ≡ steps
          → Leaves old old_buoys (rooms vs) r out out_buoys → Leaves old old_buoys answer r out out_buoys
      written_insert vs r out out_buoys told left =
          subst (λ (b : Answer (List Vertex)). Leaves old old_buoys b r out out_buoys) (past_points (answered vs) told) left
