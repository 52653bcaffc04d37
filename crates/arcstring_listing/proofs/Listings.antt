-- What a listing call answers and leaves in its two buffers, where a check refuses, where there is no room, and where it is written. Assumes nothing.
use Rattle.std.specs.Prelude.{Result, IsErrAnd}
use mathlib.Core.Path.{◌≡◌, refl, sym, ap, ap₂, ◌∙◌}
use mathlib.Core.List.{List, map}
use Prim.Native.Nat.{ℕ, ◌*◌, ◌≤◌}
use native.Mathlib.Omega.{arith}
use lib.ListN.{length}
use lib.Ieee.{Float}
use Rattle.arcstring_check.specs.declared.check.Refusal.{Refusal}
use Rattle.arcstring_check.specs.Answer.{Answer, refused, answered, unless_refused, first_of, leaves, answer_of, refusal_number}
use Rattle.arcstring.specs.Points.{points, flat}
use Rattle.arcstring.specs.Splice.{splice}
use Rattle.arcstring_check.specs.Check.{room_check}
use Rattle.arcstring_check.proofs.Answers.{pass, first_passes, second_passes}
use Rattle.arcstring_check.proofs.Rooms.{room_fits, room_enough}
use Rattle.arcstring.proofs.Splices.{splice-start}
use Rattle.arcstring_pair.specs.declared.pair.Pair.{Pair}
use Rattle.arcstring_tally.specs.declared.counts.Counts.{Counts}
use Rattle.arcstring_tally.specs.declared.inner.tally.Tally.{Tally}
use Rattle.arcstring_tally.specs.Pairs.{kept_marks, mark_point, mark_byte, counts_of}
use Rattle.arcstring_listing.proofs.Turns.{left_with, stopped_last, went_on_last}
use Rattle.arcstring_listing.specs.Listing.{Listing, listing_of, in_room, listed_result, listed_floats, listed_bytes}
use Rattle.arcstring_tally.specs.Tally.{no_tally, tally_on, tally_counts}
use Rattle.arcstring_tally.proofs.Tallies.{tally_kept, tally_counts_lem}

-- a call's answer and what it leaves in the buffers, as the listing x has it
abbrev pub Leaves : Answer Listing → Answer (ℕ × Counts) → List Float → List Float → List ℕ → List ℕ → Type 0
Leaves x r points points' marks marks' = (r ≡ listed_result x) × ((points' ≡ leaves (listed_floats x) points) × (marks' ≡ leaves (listed_bytes x) marks))

pub refused_leaves : (n : ℕ) (x : Answer Listing) (points : List Float) (marks : List ℕ) → refused n ≡ x → Leaves x (refused n) points points marks marks
refused_leaves n x points marks h =
    (ap listed_result h, (ap (λ (y : Answer Listing). leaves (listed_floats y) points) h, ap (λ (y : Answer Listing). leaves (listed_bytes y) marks) h))

pub left_leaves : (r : Result (ℕ × Counts) Refusal) (e : Refusal) (x : Answer Listing) (points : List Float) (marks : List ℕ) → IsErrAnd r (λ y. y ≡ e)
    → refused (refusal_number e) ≡ x → Leaves x (answer_of r) points points marks marks
left_leaves r e x points marks left h = rw (left_with r e left) (refused_leaves (refusal_number e) x points marks h)

pub leaves_as : (x y : Answer Listing) (r : Answer (ℕ × Counts)) (points points' : List Float) (marks marks' : List ℕ) → x ≡ y
    → Leaves x r points points' marks marks' → Leaves y r points points' marks marks'
leaves_as x y r points points' marks marks' h l = rw h at l

written_leaves : (l : Listing) (x : Answer Listing) (kept : ℕ) (c : Counts) (points points' : List Float) (marks marks' : List ℕ) → answered l ≡ x → kept
    ≡ length l.marks → c ≡ l.counts
    → points' ≡ splice points 0 (flat (map mark_point l.marks)) → marks' ≡ splice marks 0 (map mark_byte l.marks)
    → Leaves x (answered (kept, c)) points points' marks marks'
written_leaves l x kept c points points' marks marks' h hk hc hp hm = (
  ap₂ (λ (k : ℕ) (d : Counts). answered (k, d)) hk hc ∙ ap listed_result h,
  (
    hp ∙ splice-start points (flat (map mark_point l.marks)) ∙ ap (λ (y : Answer Listing). leaves (listed_floats y) points) h,
    hm
        ∙ splice-start marks (map mark_byte l.marks) ∙ ap (λ (y : Answer Listing). leaves (listed_bytes y) marks) h,
  ),
)

-- ---- the listing of pairs, as they are or with other points

pub record Lists (ps : List Pair) (l : Listing) : Type 0 where
  pub as_many : length l.marks ≡ length (kept_marks ps)
  pub same_counts : l.counts ≡ counts_of ps

pub lists_plain : (ps : List Pair) → Lists ps (listing_of ps)
unfolding listing_of
lists_plain ps = record { as_many = refl; same_counts = refl }

-- ---- where there is room in any case, one walk counts and writes

pub fitting_leaves : (ps : List Pair) (l : Listing) (lists : Lists ps l) (t : Tally) (c : Counts) (x : Answer Listing) (points points' : List Float)
    (marks marks' : List ℕ) → t ≡ tally_on no_tally ps
    → (3 * length (kept_marks ps) ≤ length points) × (length (kept_marks ps) ≤ length marks) → in_room l (length points) (length marks) ≡ x → c ≡ tally_counts t
    → points' ≡ splice points 0 (flat (map mark_point l.marks)) → marks' ≡ splice marks 0 (map mark_byte l.marks)
    → Leaves x (answered (t.kept, c)) points points' marks marks'
unfolding in_room
fitting_leaves ps l lists t c x points points' marks marks' count room h hc hp hm =
    let e = lists.as_many in
    written_leaves l x t.kept c points points' marks marks'
    (sym (pass (room_check (3 * length l.marks) (length points)) (unless_refused (room_check (length l.marks) (length marks)) (answered l))
    (room_enough (3 * length l.marks) (length points) (omega arith))
    ∙ pass (room_check (length l.marks) (length marks)) (answered l) (room_enough (length l.marks) (length marks) (omega arith)))
    ∙ h)
    (tally_kept t ps count ∙ sym e)
    (hc ∙ tally_counts_lem t ps count ∙ sym lists.same_counts)
    hp
    hm

-- ---- the room check, and what follows

module _ (ps : List Pair) (l : Listing) (lists : Lists ps l) (t : Tally) (count : t ≡ tally_on no_tally ps) (points : List Float) (marks : List ℕ) where
  abbrev pub room : ℕ
  room = first_of (room_check (3 * t.kept) (length points)) (room_check t.kept (length marks))

  kept_all : t.kept ≡ length l.marks
  kept_all = tally_kept t ps count ∙ sym lists.as_many

  same_room : room ≡ first_of (room_check (3 * length l.marks) (length points)) (room_check (length l.marks) (length marks))
  same_room = ap (λ (n : ℕ). first_of (room_check (3 * n) (length points)) (room_check n (length marks))) kept_all

  pub no_room_leaves : (r : Result (ℕ × Counts) Refusal) (e : Refusal) (x : Answer Listing) → IsErrAnd r (λ y. y ≡ e) → refusal_number e ≡ room
      → in_room l (length points) (length marks) ≡ x → Leaves x (answer_of r) points points marks marks
  unfolding in_room
  no_room_leaves r e x h number i =
      left_leaves r e x points marks h
      (stopped_last e (room_check (3 * length l.marks) (length points)) (room_check (length l.marks) (length marks)) (answered l) (number ∙ same_room) ∙ i)

  pub listing_leaves : (c : Counts) (x : Answer Listing) (points' : List Float) (marks' : List ℕ) → 0 ≡ room → in_room l (length points) (length marks) ≡ x
      → c ≡ tally_counts t → points' ≡ splice points 0 (flat (map mark_point l.marks)) → marks' ≡ splice marks 0 (map mark_byte l.marks)
      → Leaves x (answered (t.kept, c)) points points' marks marks'
  unfolding in_room
  listing_leaves c x points' marks' number h hc hp hm =
      written_leaves l x t.kept c points points' marks marks'
      (went_on_last (room_check (3 * length l.marks) (length points)) (room_check (length l.marks) (length marks)) (answered l) (number ∙ same_room) ∙ h)
      kept_all
      (hc ∙ tally_counts_lem t ps count ∙ sym lists.same_counts)
      hp
      hm

  pub room_for_kept : 0 ≡ room → (3 * t.kept ≤ length points) × (t.kept ≤ length marks)
  room_for_kept number =
      let m = room_check (3 * t.kept) (length points) in
      let n = room_check t.kept (length marks) in
      (room_fits (3 * t.kept) (length points) (first_passes m n (sym number)), room_fits t.kept (length marks) (second_passes m n (sym number)))
