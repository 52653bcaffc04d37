-- What a cut at marks answers, and the three buffers after it, from the pieces that stand in the local lists. Assumes nothing.
use mathlib.Core.Path.{◌≡◌, refl, sym, ap, ap₂, ◌∙◌}
use mathlib.Core.Bool.{Bool, true, false, ◌||◌, true≢false}
use mathlib.Core.List.{List, map}
use mathlib.Core.Option.{Option, none, some}
use Prim.Native.Nat.{ℕ, ◌+◌, ◌-◌, ◌*◌, ◌≤◌, ◌<◌}
use native.Mathlib.Omega.{arith}
use lib.Dec.{ltb}
use lib.Ieee.{Float}
use lib.ListN.{length, take, length-map}
use borrow.Author.Tests.{ltb-false}
use Rattle.arcstring_mark_cut.specs.declared.pieces.Opened.{Opened}
use Rattle.arcstring_check.specs.Answer.{Answer, refused, answered, number_if, first_of, unless_refused, map_answer, leaves}
use Rattle.arcstring_check.specs.Check.{room_check, rooms_check}
use Rattle.arcstring.specs.declared.inner.vertex.Vertex.{Vertex}
use Rattle.arcstring.specs.Points.{StringOf, numbered, place_of, points, flat}
use Rattle.arcstring.specs.Splice.{splice}
use Rattle.arcstring.specs.Written.{points_in, piece_floats, piece_buoys, piece_counts}
use Rattle.arcstring.proofs.Flat.{flat-points, take-flat}
use Rattle.arcstring.proofs.Numbered.{map-take, all_places, all_buoys}
use Rattle.arcstring.proofs.Splices.{splice-start}
use Rattle.arcstring_split_leg.specs.SplitLeg.{unless_uncut, piece_count, of_pieces}
use Rattle.arcstring_split_leg.proofs.Uncut.{one_uncut, two_cut}
use Rattle.arcstring_piece.specs.Pieces.{sum}
use Rattle.arcstring_mark_cut.specs.CutAtMarks.{open_string, cut_into}
use Rattle.arcstring_mark_cut.specs.Standing.{opened_room, standing}
use Rattle.arcstring_mark_cut.specs.OpenedPieces.{pieces_of, handed_over}
use Rattle.arcstring_mark_cut.proofs.InPieces.{in_length, in_counts, in_together}
use Rattle.arcstring_mark_cut.proofs.OpenPieces.{floats_of, buoys_of_lem, counts_of_lem, points-together}
use Rattle.arcstring_mark_cut.proofs.MarkCuts.{as_many, room_for_all, few_pieces, counts_length, all_points}

-- ---- the answer and the three buffers are those of the answer h

abbrev pub Handed : Answer (Option (List (StringOf Vertex))) → List Float → List ℕ → List ℕ → Answer (Option ℕ) → List Float → List ℕ → List ℕ → Type 0
Handed h old old_buoys old_counts r out buoys counts =
    (r ≡ map_answer piece_count h)
    × ((out ≡ leaves (map_answer (of_pieces piece_floats) h) old)
    × ((buoys ≡ leaves (map_answer (of_pieces piece_buoys) h) old_buoys) × (counts ≡ leaves (map_answer (of_pieces piece_counts) h) old_counts)))

module _ (old : List Float) (old_buoys old_counts : List ℕ) where
  pub handed_by : (a h : Answer (Option (List (StringOf Vertex)))) → a ≡ h →
      Handed h old old_buoys old_counts (map_answer piece_count a) (leaves (map_answer (of_pieces piece_floats) a) old)
      (leaves (map_answer (of_pieces piece_buoys) a) old_buoys) (leaves (map_answer (of_pieces piece_counts) a) old_counts)
  handed_by a h e = (
    ap (map_answer piece_count) e,
    (
      ap (λ (b : Answer (Option (List (StringOf Vertex)))). leaves (map_answer (of_pieces piece_floats) b) old) e,
      (
        ap (λ (b : Answer (Option (List (StringOf Vertex)))). leaves (map_answer (of_pieces piece_buoys) b) old_buoys) e,
        ap (λ (b : Answer (Option (List (StringOf Vertex)))). leaves (map_answer (of_pieces piece_counts) b) old_counts) e,
      ),
    ),
  )

  -- and of any answer that is the same
  pub handed_same : (h g : Answer (Option (List (StringOf Vertex)))) (r : Answer (Option ℕ)) (out : List Float) (buoys counts : List ℕ) → h ≡ g →
      Handed h old old_buoys old_counts r out buoys counts → Handed g old old_buoys old_counts r out buoys counts
  handed_same h g r out buoys counts e s =
      let by = handed_by h g e in
      (s.0 ∙ by.0, (s.1.0 ∙ by.1.0, (s.1.1.0 ∙ by.1.1.0, s.1.1.1 ∙ by.1.1.1)))

-- ---- the rooms of three buffers

rooms_by : (a b c : Bool) → first_of (first_of (number_if a 7) (number_if b 7)) (number_if c 7) ≡ number_if ((a || b) || c) 7
rooms_by true b c = refl
rooms_by false true c = refl
rooms_by false false c = refl

neither : (a b c : Bool) → (a || b) || c ≡ false → (a ≡ false) × (b ≡ false) × (c ≡ false)
neither true b c h = absurd (true≢false h)
neither false true c h = absurd (true≢false h)
neither false false c h = (refl, refl, h)

-- all three have room
pub rooms_fit : (j k l w x y : ℕ) → (ltb w j || ltb x k) || ltb y l ≡ false → (j ≤ w) × (k ≤ x) × (l ≤ y)
rooms_fit j k l w x y h =
    let all = neither (ltb w j) (ltb x k) (ltb y l) h in
    (ltb-false w j all.0, ltb-false x k all.1, ltb-false y l all.2)

-- ---- handed over

module _ (s : Opened) (old : List Float) (old_buoys old_counts : List ℕ) where
  abbrev xs : List Vertex
  xs = numbered (points s.v) s.buoys

  abbrev ss : List (StringOf Vertex)
  ss = map (open_string place_of) (pieces_of s)

  abbrev into : Option (List (StringOf Vertex)) → Answer (Option (List (StringOf Vertex)))
  into = cut_into (length old) (length old_buoys) (length old_counts)

  abbrev handed : Answer (Option (List (StringOf Vertex)))
  handed = handed_over s (length old) (length old_buoys) (length old_counts)

  ss_length : length ss ≡ s.count
  unfolding standing
  ss_length = length-map (pieces_of s) (open_string place_of) ∙ in_length (take s.count s.counts) xs ∙ counts_length s

  pub handed_uncut : s.count < 2 → Handed handed old old_buoys old_counts (answered none) old old_buoys old_counts
  handed_uncut h =
      let e : unless_uncut ss ≡ none = one_uncut ss (omega (arith, ss_length)) in
      handed_by old old_buoys old_counts (answered none) handed (sym (ap into e))

  -- how many points there are, and room for them in the local lists
  pub total-points : (sum (take s.count s.counts) ≡ s.points + 2 * (s.count - 1)) × (s.points + 2 * (s.count - 1) ≤ opened_room)
      × (length s.v ≡ 3 * opened_room) × (length s.buoys ≡ opened_room) × (s.count ≤ length s.counts)
  total-points =
      let l = s.stands.limit in
      let c = s.stands.counts-room in
      let all = all_points s in
      (all, omega arith, s.stands.floats, s.stands.buoys_room, omega (arith, few_pieces s))

  module _ (two : 2 ≤ s.count) (total : ℕ) (all : total ≡ s.points + 2 * (s.count - 1)) where
    summed : total ≡ sum (take s.count s.counts)
    summed = all ∙ sym total-points.0

    enough : sum (take s.count s.counts) ≤ length xs
    enough = let l = s.stands.limit in omega (arith, room_for_all s)

    point_total : points_in ss ≡ total
    unfolding standing
    point_total = points-together (pieces_of s) ∙ in_together (take s.count s.counts) xs enough ∙ sym summed

    -- whether one of the buffers is too short
    abbrev short : Bool
    short = (ltb (length old) (3 * total) || ltb (length old_buoys) total) || ltb (length old_counts) s.count

    by_rooms : (b : Bool) → short ≡ b → handed ≡ unless_refused (number_if b 7) (answered (some ss))
    unfolding room_check rooms_check
    by_rooms b h =
        let e : unless_uncut ss ≡ some ss = two_cut ss (omega (arith, ss_length)) in
        ap into e
        ∙ (λ i. unless_refused (first_of (rooms_check (point_total i) (length old) (length old_buoys)) (room_check (ss_length i) (length old_counts)))
        (answered (some ss)))
        ∙ ap (λ (k : ℕ). unless_refused k (answered (some ss)))
        (rooms_by (ltb (length old) (3 * total)) (ltb (length old_buoys) total) (ltb (length old_counts) s.count))
        ∙ ap (λ (t : Bool). unless_refused (number_if t 7) (answered (some ss))) h

    pub handed_no_room : short ≡ true → Handed handed old old_buoys old_counts (refused 7) old old_buoys old_counts
    handed_no_room h = handed_by old old_buoys old_counts (refused 7) handed (sym (by_rooms true h))

    floats_there : take (3 * total) s.v ≡ piece_floats ss
    unfolding standing
    floats_there =
        ap₂ (λ (k : ℕ) (v : List Float). take (3 * k) v) summed (sym (flat-points opened_room s.v s.stands.floats))
        ∙ take-flat (sum (take s.count s.counts)) (points s.v)
        ∙ ap (λ ps. flat (take (sum (take s.count s.counts)) ps)) (sym (all_places (points s.v) s.buoys (as_many s)))
        ∙ ap flat (sym (map-take place_of (sum (take s.count s.counts)) xs))
        ∙ sym (floats_of (take s.count s.counts) xs)

    buoys_there : take total s.buoys ≡ piece_buoys ss
    unfolding standing
    buoys_there =
        ap₂ take summed (sym (all_buoys (points s.v) s.buoys (as_many s)))
        ∙ sym (map-take (λ (x : Vertex). x.buoy) (sum (take s.count s.counts)) xs)
        ∙ sym (buoys_of_lem (take s.count s.counts) xs)

    counts_there : take s.count s.counts ≡ piece_counts ss
    unfolding standing
    counts_there = sym (counts_of_lem (pieces_of s) ∙ in_counts (take s.count s.counts) xs enough)

    pub handed_pieces : (out : List Float) (numbers counts : List ℕ) → short ≡ false → out ≡ splice old 0 (take (3 * total) s.v)
        → numbers ≡ splice old_buoys 0 (take total s.buoys) → counts ≡ splice old_counts 0 (take s.count s.counts)
        → Handed handed old old_buoys old_counts (answered (some s.count)) out numbers counts
    handed_pieces out numbers counts h o b c =
        let by = handed_by old old_buoys old_counts (answered (some ss)) handed (sym (by_rooms false h)) in (
          ap (λ (j : ℕ). answered (some j)) (sym ss_length) ∙ by.0,
          (
            o ∙ ap (splice old 0) floats_there ∙ splice-start old (piece_floats ss) ∙ by.1.0,
            (
              b ∙ ap (splice old_buoys 0) buoys_there ∙ splice-start old_buoys (piece_buoys ss) ∙ by.1.1.0,
              c ∙ ap (splice old_counts 0) counts_there ∙ splice-start old_counts (piece_counts ss) ∙ by.1.1.1,
            ),
          ),
        )
