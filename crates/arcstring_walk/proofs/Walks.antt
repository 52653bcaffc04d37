-- What a walk backwards and a restart answer and leave: where a check refuses, and where the moved vertices were written. Assumes nothing.
use mathlib.Core.Path.{◌≡◌, refl, sym, ap, ap₂, ◌∙◌}
use mathlib.Core.Bool.{Bool, true, false, ◌&&◌}
use mathlib.Core.List.{List, ◌++◌, reverse, append-nil}
use Prim.Native.Nat.{ℕ, ◌*◌, ◌/◌, ◌≤◌, ◌<◌}
use native.Mathlib.Omega.{arith}
use lib.Dec.{ltb}
use lib.ListN.{length, take, drop, length-append, length-drop, length-reverse}
use lib.Seq.{length-take-le}
use lib.Ieee.{Float}
use borrow.Author.Tests.{ltb-true}
use Rattle.ieee754.proofs.Tests.{and_second}
use Rattle.sphericalpoint.specs.declared.SphericalPoint.{SphericalPoint}
use Rattle.arcstring_check.specs.declared.check.Refusal.{Refusal}
use Rattle.arcstring_check.specs.Answer.{Answer, refused, answered, unless_refused, pick, refusal_number}
use Rattle.arcstring.specs.declared.inner.vertex.Vertex.{Vertex}
use Rattle.arcstring.specs.Points.{numbered, places_of, buoys_of, points, flat}
use Rattle.arcstring_check.specs.Check.{string_check, rooms_check, into_rooms, lent}
use Rattle.arcstring_walk.specs.Walk.{restarted, walk_back, restart}
use Rattle.arcstring_check.proofs.Answers.{stopped, went_on}
use Rattle.arcstring_check.proofs.Checks.{stored_whole, string-stored, as_many_buoys}
use Rattle.arcstring.proofs.Written.{Leaves, left_refused, left_written}
use Rattle.arcstring.proofs.Numbered.{map-reverse, length-numbered}
use Rattle.arcstring_walk.proofs.WalksWithout.{map-restarted, back_places, restart_places}
use Rattle.arcstring.proofs.WithoutBuoys.{buoy_of, lent_buoys}
use Rattle.arcstring.proofs.Flat.{flat_append, flat-points, length-points, count_points, take-flat, drop-flat}

-- ---- the answer, and the buffers

module _ (v : List Float) (buoys : List ℕ) (passed : 0 ≡ string_check v buoys) where
  -- accepted vertices are whole triples, and there are as many numbers
  pub accepted_triples : length v ≡ 3 * (length v / 3)
  accepted_triples = (stored_whole v (string-stored v buoys (sym passed))).triples

  pub accepted_buoys : length buoys ≡ length v / 3
  accepted_buoys = as_many_buoys v buoys (sym passed)

module _ (v old : List Float) (buoys old_buoys : List ℕ) where
  -- vertices moved, as many as there were
  module _ (move : List Vertex → List Vertex) where
    abbrev vs : List Vertex
    vs = move (numbered (points v) buoys)

    abbrev Moved : Answer (List Vertex)
    Moved = lent v buoys (length old) (length old_buoys) (answered vs)

    refused_move : (e : Refusal) → refusal_number e ≡ string_check v buoys → Leaves old old_buoys Moved (refused (refusal_number e)) old old_buoys
    unfolding lent
    refused_move e number = left_refused old old_buoys Moved (refusal_number e) (stopped e (string_check v buoys) _ number)

    module _ (passed : 0 ≡ string_check v buoys) (count : length vs ≡ length (numbered (points v) buoys)) where
      long : length vs ≡ length v / 3
      long = count ∙ length-numbered (points v) buoys (accepted_buoys v buoys passed ∙ sym (count_points v)) ∙ count_points v

      -- the test for both rooms
      abbrev rooms : ℕ
      rooms = rooms_check (length v / 3) (length old) (length old_buoys)

      by_rooms : (a : Answer (List Vertex)) → a ≡ unless_refused rooms (answered vs) → a ≡ Moved
      unfolding lent into_rooms
      by_rooms a h =
          h ∙ ap (λ (n : ℕ). unless_refused (rooms_check n (length old) (length old_buoys)) (answered vs)) (sym long)
          ∙ went_on (string_check v buoys) _ passed

      move_short : (e : Refusal) → refusal_number e ≡ rooms → Leaves old old_buoys Moved (refused (refusal_number e)) old old_buoys
      move_short e h = left_refused old old_buoys Moved (refusal_number e) (by_rooms _ (stopped e rooms _ h))

      move_written : (ps : List SphericalPoint) (bs : List ℕ) (out : List Float) (out_buoys : List ℕ)
          → 0 ≡ rooms → places_of vs ≡ ps → buoys_of vs ≡ bs
          → out ≡ flat ps ++ drop (3 * (length v / 3)) old → out_buoys ≡ bs ++ drop (length buoys) old_buoys
          → Leaves old old_buoys Moved (answered (length v / 3)) out out_buoys
      move_written ps bs out out_buoys room p q w u =
          left_written old old_buoys Moved vs (length v / 3) ps bs out out_buoys (by_rooms _ (went_on rooms _ room)) long p q w
          (u ∙ ap (λ (n : ℕ). bs ++ drop n old_buoys) (accepted_buoys v buoys passed))

  -- backwards
  pub back_refused : (e : Refusal) → refusal_number e ≡ string_check v buoys
      → Leaves old old_buoys (walk_back v buoys (length old) (length old_buoys)) (refused (refusal_number e)) old old_buoys
  unfolding walk_back
  back_refused = refused_move reverse

  module _ (passed : 0 ≡ string_check v buoys) where
    pub back_short : (e : Refusal) → refusal_number e ≡ rooms_check (length v / 3) (length old) (length old_buoys)
        → Leaves old old_buoys (walk_back v buoys (length old) (length old_buoys)) (refused (refusal_number e)) old old_buoys
    unfolding walk_back
    back_short = move_short reverse passed (length-reverse (numbered (points v) buoys))

    pub back_written : (out : List Float) (out_buoys : List ℕ) → 0 ≡ rooms_check (length v / 3) (length old) (length old_buoys)
        → out ≡ flat (reverse (points v)) ++ drop (3 * (length v / 3)) old → out_buoys ≡ reverse buoys ++ drop (length buoys) old_buoys
        → Leaves old old_buoys (walk_back v buoys (length old) (length old_buoys)) (answered (length v / 3)) out out_buoys
    unfolding walk_back
    back_written out out_buoys room w u =
        move_written reverse passed (length-reverse (numbered (points v) buoys)) (reverse (points v)) (reverse buoys) out out_buoys room
        (back_places v buoys (sym passed)) (map-reverse buoy_of (numbered (points v) buoys) ∙ ap reverse (lent_buoys v buoys (sym passed))) w u

-- ---- restarted

-- where a restart begins is a position of the list
start-within : (b : Bool) (at n : ℕ) → (b ≡ true → at < n) → pick b at 0 ≤ n
start-within true at n h = omega (arith, h refl)
start-within false at n h = omega arith

pub restart-within : (closed : Bool) (at n k : ℕ) → k ≡ pick (closed && ltb at n) at 0 → k ≤ n
restart-within closed at n k h =
    omega (arith, start-within (closed && ltb at n) at n (λ e. ltb-true at n (and_second closed (ltb at n) e)))

by-start : (b : Bool) (ps : List SphericalPoint) (at : ℕ) →
    drop (3 * pick b at 0) (flat ps) ++ take (3 * pick b at 0) (flat ps) ≡ flat (pick b (drop at ps ++ take at ps) ps)
by-start true ps at = rw (drop-flat, take-flat) (sym (flat_append (drop at ps) (take at ps)))
by-start false ps at = append-nil (flat ps)

-- the same of any list
runs_by : {A : Type 0} (b : Bool) (xs : List A) (at : ℕ) → drop (pick b at 0) xs ++ take (pick b at 0) xs ≡ pick b (drop at xs ++ take at xs) xs
runs_by true xs at = refl
runs_by false xs at = append-nil xs

restart_runs : {A : Type 0} (xs : List A) (n : ℕ) (closed : Bool) (at k : ℕ) → length xs ≡ n → k ≡ pick (closed && ltb at n) at 0
    → drop k xs ++ take k xs ≡ restarted xs closed at
unfolding restarted
restart_runs xs n closed at k count h =
    ap (λ (j : ℕ). drop j xs ++ take j xs) h
    ∙ runs_by (closed && ltb at n) xs at
    ∙ ap (λ (m : ℕ). pick (closed && ltb at m) (drop at xs ++ take at xs) xs) (sym count)

length-restarted : {A : Type 0} (xs : List A) (closed : Bool) (at : ℕ) → length (restarted xs closed at) ≡ length xs
length-restarted xs closed at =
    let k = pick (closed && ltb at (length xs)) at 0 in
    let within : k ≤ length xs = restart-within closed at (length xs) k refl in
    ap length (sym (restart_runs xs (length xs) closed at k refl refl))
    ∙ length-append (drop k xs) (take k xs)
    ∙ omega (arith, length-drop k xs, length-take-le k xs within)

restart_floats : (v : List Float) (n : ℕ) (closed : Bool) (at k : ℕ) → length v ≡ 3 * n → k ≡ pick (closed && ltb at n) at 0 →
    drop (3 * k) v ++ take (3 * k) v ≡ flat (restarted (points v) closed at)
unfolding restarted
restart_floats v n closed at k whole h =
    let ps = points v in
    ap (λ (w : List Float). drop (3 * k) w ++ take (3 * k) w) (sym (flat-points n v whole))
    ∙ ap (λ (j : ℕ). drop (3 * j) (flat ps) ++ take (3 * j) (flat ps)) h
    ∙ by-start (closed && ltb at n) ps at
    ∙ ap (λ (m : ℕ). flat (pick (closed && ltb at m) (drop at ps ++ take at ps) ps)) (sym (length-points n v whole))

-- restarted, from the vertex `start` on
module _ (v old : List Float) (buoys old_buoys : List ℕ) (closed : Bool) (at : ℕ) where
  abbrev restarts : List Vertex → List Vertex
  restarts xs = restarted xs closed at

  pub restart_refused : (e : Refusal) → refusal_number e ≡ string_check v buoys
      → Leaves old old_buoys (restart v buoys closed at (length old) (length old_buoys)) (refused (refusal_number e)) old old_buoys
  unfolding restart
  restart_refused = refused_move v old buoys old_buoys restarts

  module _ (passed : 0 ≡ string_check v buoys) where
    pub restart_short : (e : Refusal) → refusal_number e ≡ rooms_check (length v / 3) (length old) (length old_buoys)
        → Leaves old old_buoys (restart v buoys closed at (length old) (length old_buoys)) (refused (refusal_number e)) old old_buoys
    unfolding restart
    restart_short = move_short v old buoys old_buoys restarts passed (length-restarted (numbered (points v) buoys) closed at)

    pub restart_written : (start : ℕ) (out : List Float) (out_buoys : List ℕ) → start ≡ pick (closed && ltb at (length v / 3)) at 0
        → 0 ≡ rooms_check (length v / 3) (length old) (length old_buoys)
        → out ≡ (drop (3 * start) v ++ take (3 * start) v) ++ drop (length v) old
        → out_buoys ≡ (drop start buoys ++ take start buoys) ++ drop (length buoys) old_buoys
        → Leaves old old_buoys (restart v buoys closed at (length old) (length old_buoys)) (answered (length v / 3)) out out_buoys
    unfolding restart
    restart_written start out out_buoys begins room w u =
        let h = sym passed in
        let n = length v / 3 in
        move_written v old buoys old_buoys restarts passed (length-restarted (numbered (points v) buoys) closed at)
        (restarted (points v) closed at) (restarted buoys closed at) out out_buoys
        room (restart_places v buoys h closed at)
        (map-restarted buoy_of (numbered (points v) buoys) closed at ∙ ap (λ (bs : List ℕ). restarted bs closed at) (lent_buoys v buoys h))
        (w ∙ ap₂ (λ (l : List Float) (j : ℕ). l ++ drop j old) (restart_floats v n closed at start (accepted_triples v buoys passed) begins)
        (accepted_triples v buoys passed))
        (u ∙ ap (λ (bs : List ℕ). bs ++ drop (length buoys) old_buoys)
        (restart_runs buoys n closed at start (accepted_buoys v buoys passed) begins))
