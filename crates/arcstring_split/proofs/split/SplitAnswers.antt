-- What a split of a string answers, and the four buffers after it, from the pieces that stand in the local lists. Assumes nothing.
use mathlib.Core.Path.{◌≡◌, refl, sym, ap, ap₂, ◌∙◌}
use mathlib.Core.Bool.{Bool, true, false, ◌||◌, true≢false}
use mathlib.Core.List.{List, ◌++◌}
use mathlib.Core.Option.{Option, none, some}
use Prim.Native.Nat.{ℕ, ◌*◌, ◌≤◌, ◌<◌}
use native.Mathlib.Omega.{arith}
use lib.Dec.{ltb}
use lib.Ieee.{Float}
use lib.ListN.{length, take, drop}
use borrow.Author.Tests.{ltb-false}
use Rattle.sphericalpoint.specs.declared.SphericalPoint.{SphericalPoint}
use Rattle.arcstring.specs.declared.inner.vertex.Vertex.{Vertex}
use Rattle.arcstring_check.specs.Answer.{Answer, refused, answered, number_if, first_of, unless_refused, map_answer, leaves}
use Rattle.arcstring.specs.Points.{StringOf, place_of, points, flat}
use Rattle.arcstring.specs.Splice.{splice}
use Rattle.arcstring_check.specs.Check.{room_check, rooms_check, most_points}
use Rattle.arcstring.proofs.Flat.{take-flat, flat-points, length-points}
use Rattle.arcstring.proofs.Numbered.{map-take, all_places, all_buoys}
use Rattle.arcstring.proofs.Splices.{splice-start}
use Rattle.arcstring_split_leg.specs.SplitLeg.{unless_uncut, piece_count, of_pieces}
use Rattle.arcstring_split_leg.proofs.Uncut.{one_uncut, two_cut}
use Rattle.arcstring.specs.Written.{points_in}
use Rattle.arcstring_piece.specs.declared.inner.pieces.Pieces.{Pieces}
use Rattle.arcstring_piece.specs.Pieces.{first_pieces, sum}
use Rattle.arcstring_piece.specs.Standing.{standing}
use Rattle.arcstring_piece.proofs.inner.replace.Pieces.{pieces_points}
use Rattle.arcstring_piece.proofs.inner.pieces.CutLists.{vertices_in, count_length, first_length, same_length, enough}
use Rattle.arcstring.specs.Written.{piece_floats, piece_buoys, piece_counts}
use Rattle.arcstring_split.specs.Split.{piece_flags, pieces_into}
use Rattle.arcstring_split.specs.Handed.{flags_of, handed_over}
use Rattle.arcstring_split.proofs.split.PiecesWritten.{pieces_counts, pieces_flags, pieces_floats, pieces_buoys}

-- ---- the answer and the four buffers are those of the answer h

abbrev pub Splits : Answer (Option (List (StringOf Vertex))) → List Float → List ℕ → List ℕ → List ℕ → Answer (Option ℕ) → List Float → List ℕ → List ℕ →
    List ℕ → Type 0
Splits h old old_buoys old_counts old_flags r out buoys counts flags =
    (r ≡ map_answer piece_count h)
    × ((out ≡ leaves (map_answer (of_pieces piece_floats) h) old)
    × ((buoys ≡ leaves (map_answer (of_pieces piece_buoys) h) old_buoys)
    × ((counts ≡ leaves (map_answer (of_pieces piece_counts) h) old_counts) × (flags ≡ leaves (map_answer (of_pieces piece_flags) h) old_flags))))

module _ (old : List Float) (old_buoys old_counts old_flags : List ℕ) where
  pub splits_by : (a h : Answer (Option (List (StringOf Vertex)))) → a ≡ h →
      Splits h old old_buoys old_counts old_flags (map_answer piece_count a)
      (leaves (map_answer (of_pieces piece_floats) a) old) (leaves (map_answer (of_pieces piece_buoys) a) old_buoys)
      (leaves (map_answer (of_pieces piece_counts) a) old_counts) (leaves (map_answer (of_pieces piece_flags) a) old_flags)
  splits_by a h e = (
    ap (map_answer piece_count) e,
    (
      ap (λ (b : Answer (Option (List (StringOf Vertex)))). leaves (map_answer (of_pieces piece_floats) b) old) e,
      (
        ap (λ (b : Answer (Option (List (StringOf Vertex)))). leaves (map_answer (of_pieces piece_buoys) b) old_buoys) e,
        (
          ap (λ (b : Answer (Option (List (StringOf Vertex)))). leaves (map_answer (of_pieces piece_counts) b) old_counts) e,
          ap (λ (b : Answer (Option (List (StringOf Vertex)))). leaves (map_answer (of_pieces piece_flags) b) old_flags) e,
        ),
      ),
    ),
  )

  -- and of any answer that is the same
  pub splits_same : (h g : Answer (Option (List (StringOf Vertex)))) (r : Answer (Option ℕ)) (out : List Float) (buoys counts flags : List ℕ) → h ≡ g →
      Splits h old old_buoys old_counts old_flags r out buoys counts flags → Splits g old old_buoys old_counts old_flags r out buoys counts flags
  splits_same h g r out buoys counts flags e s =
      let by = splits_by h g e in
      (s.0 ∙ by.0, (s.1.0 ∙ by.1.0, (s.1.1.0 ∙ by.1.1.0, (s.1.1.1.0 ∙ by.1.1.1.0, s.1.1.1.1 ∙ by.1.1.1.1))))

-- ---- the rooms of four buffers

rooms_by : (a b c d : Bool) →
    first_of (first_of (number_if a 7) (number_if b 7)) (first_of (number_if c 7) (number_if d 7)) ≡ number_if (((a || b) || c) || d) 7
rooms_by true b c d = refl
rooms_by false true c d = refl
rooms_by false false true d = refl
rooms_by false false false d = refl

neither : (a b : Bool) → a || b ≡ false → (a ≡ false) × (b ≡ false)
neither true b h = absurd (true≢false h)
neither false b h = (refl, h)

-- all four have room
rooms_fit : (j k l m w x y z : ℕ) → ((ltb w j || ltb x k) || ltb y l) || ltb z m ≡ false → (j ≤ w) × (k ≤ x) × (l ≤ y) × (m ≤ z)
rooms_fit j k l m w x y z h =
    let all = neither ((ltb w j || ltb x k) || ltb y l) (ltb z m) h in
    let three = neither (ltb w j || ltb x k) (ltb y l) all.0 in
    let two = neither (ltb w j) (ltb x k) three.0 in
    (ltb-false w j two.0, ltb-false x k two.1, ltb-false y l three.1, ltb-false z m all.1)

-- ---- handed over

module _ (p : Pieces) (old : List Float) (old_buoys old_counts old_flags : List ℕ) where
  abbrev into : Option (List (StringOf Vertex)) → Answer (Option (List (StringOf Vertex)))
  into = pieces_into (length old) (length old_buoys) (length old_counts) (length old_flags)

  abbrev handed : Answer (Option (List (StringOf Vertex)))
  handed = handed_over p (length old) (length old_buoys) (length old_counts) (length old_flags)

  pub handed_uncut : p.count < 2 → Splits handed old old_buoys old_counts old_flags (answered none) old old_buoys old_counts old_flags
  handed_uncut h =
      let e : unless_uncut (standing p) ≡ none = one_uncut (standing p) (omega (arith, first_length p)) in
      splits_by old old_buoys old_counts old_flags (answered none) handed (sym (ap into e))

  -- whether one of the buffers is too short
  abbrev short : ℕ → Bool
  short total = ((ltb (length old) (3 * total) || ltb (length old_buoys) total) || ltb (length old_counts) p.count) || ltb (length old_flags) p.count

  pub all_fit : (total : ℕ) → short total ≡ false →
      (3 * total ≤ length old) × (total ≤ length old_buoys) × (p.count ≤ length old_counts) × (p.count ≤ length old_flags)
  all_fit total h = rooms_fit (3 * total) total p.count p.count (length old) (length old_buoys) (length old_counts) (length old_flags) h

  module _ (two : 2 ≤ p.count) (total : ℕ) (all : total ≡ sum (take p.count p.counts)) where
    point_total : points_in (standing p) ≡ total
    unfolding first_pieces
    point_total = pieces_points (take p.count p.counts) (take p.count p.closed) (vertices_in p) (same_length p) (enough p) ∙ sym all

    by_rooms : (b : Bool) → short total ≡ b → handed ≡ unless_refused (number_if b 7) (answered (some (standing p)))
    unfolding room_check rooms_check
    by_rooms b h =
        let e : unless_uncut (standing p) ≡ some (standing p) = two_cut (standing p) (omega (arith, first_length p)) in
        ap into e
        ∙ (λ i. unless_refused (first_of (rooms_check (point_total i) (length old) (length old_buoys))
        (first_of (room_check (first_length p i) (length old_counts)) (room_check (first_length p i) (length old_flags)))) (answered (some (standing p))))
        ∙ ap (λ (n : ℕ). unless_refused n (answered (some (standing p))))
        (rooms_by (ltb (length old) (3 * total)) (ltb (length old_buoys) total) (ltb (length old_counts) p.count) (ltb (length old_flags) p.count))
        ∙ ap (λ (t : Bool). unless_refused (number_if t 7) (answered (some (standing p)))) h

    pub handed_no_room : short total ≡ true → Splits handed old old_buoys old_counts old_flags (refused 7) old old_buoys old_counts old_flags
    handed_no_room h = splits_by old old_buoys old_counts old_flags (refused 7) handed (sym (by_rooms true h))

    -- as many numbers as points
    as_many : length p.buoys ≡ length (points p.v)
    as_many = p.stands.buoys_room ∙ sym (length-points most_points p.v p.stands.floats)

    floats_there : take (3 * total) p.v ≡ piece_floats (standing p)
    unfolding first_pieces
    floats_there =
        ap₂ (λ (n : ℕ) (v : List Float). take (3 * n) v) all (sym (flat-points most_points p.v p.stands.floats))
        ∙ take-flat (sum (take p.count p.counts)) (points p.v)
        ∙ ap (λ (ps : List SphericalPoint). flat (take (sum (take p.count p.counts)) ps)) (sym (all_places (points p.v) p.buoys as_many))
        ∙ ap flat (sym (map-take place_of (sum (take p.count p.counts)) (vertices_in p)))
        ∙ sym (pieces_floats (take p.count p.counts) (take p.count p.closed) (vertices_in p) (same_length p))

    buoys_there : take total p.buoys ≡ piece_buoys (standing p)
    unfolding first_pieces
    buoys_there =
        ap₂ take all (sym (all_buoys (points p.v) p.buoys as_many))
        ∙ sym (map-take (λ (x : Vertex). x.buoy) (sum (take p.count p.counts)) (vertices_in p))
        ∙ sym (pieces_buoys (take p.count p.counts) (take p.count p.closed) (vertices_in p) (same_length p))

    counts_there : take p.count p.counts ≡ piece_counts (standing p)
    unfolding first_pieces
    counts_there = sym (pieces_counts (take p.count p.counts) (take p.count p.closed) (vertices_in p) (same_length p) (enough p))

    flags_there : flags_of (take p.count p.closed) ≡ piece_flags (standing p)
    unfolding first_pieces
    flags_there = sym (pieces_flags (take p.count p.counts) (take p.count p.closed) (vertices_in p) (same_length p))

    pub handed_pieces : (out : List Float) (buoys counts flags : List ℕ) → short total ≡ false →
        out ≡ splice old 0 (take (3 * total) p.v) → buoys ≡ splice old_buoys 0 (take total p.buoys) → counts ≡ splice old_counts 0 (take p.count p.counts) →
        flags ≡ splice old_flags 0 (flags_of (take p.count p.closed)) →
        Splits handed old old_buoys old_counts old_flags (answered (some p.count)) out buoys counts flags
    handed_pieces out buoys counts flags h o n c f =
        let by = splits_by old old_buoys old_counts old_flags (answered (some (standing p))) handed (sym (by_rooms false h)) in (
          ap (λ (j : ℕ). answered (some j)) (sym (first_length p)) ∙ by.0,
          (
            o ∙ ap (splice old 0) floats_there ∙ splice-start old (piece_floats (standing p)) ∙ by.1.0,
            (
              n ∙ ap (splice old_buoys 0) buoys_there ∙ splice-start old_buoys (piece_buoys (standing p)) ∙ by.1.1.0,
              (
                c ∙ ap (splice old_counts 0) counts_there ∙ splice-start old_counts (piece_counts (standing p)) ∙ by.1.1.1.0,
                f ∙ ap (splice old_flags 0) flags_there ∙ splice-start old_flags (piece_flags (standing p)) ∙ by.1.1.1.1,
              ),
            ),
          ),
        )
