-- Laws of a cut in the lists that pieces stand in: what the lists hold once two pieces are written in the place of one, and that pieces stand there still.
-- Assumes nothing.
use mathlib.Core.Path.{◌≡◌, sym, ap, ap₂, ◌∙◌}
use mathlib.Core.Bool.{Bool, true, false}
use mathlib.Core.List.{List, ◌∷◌, ◌++◌, append_assoc}
use Prim.Native.Nat.{ℕ, ◌+◌, ◌-◌, ◌*◌, ◌≤◌, ◌<◌}
use native.Mathlib.Omega.{arith}
use lib.Ieee.{Float}
use lib.ListN.{length, get_or, take, drop, length-drop, length-append}
use lib.Seq.{length-take-le, take-take, get_or-take}
use Rattle.sphericalpoint.specs.declared.SphericalPoint.{SphericalPoint}
use Rattle.arcstring.specs.declared.inner.vertex.Vertex.{Vertex}
use Rattle.arcstring.specs.Points.{StringOf, numbered, points}
use Rattle.arcstring.specs.Splice.{splice}
use Rattle.arcstring_check.specs.Check.{most_points}
use Rattle.arcstring.proofs.Flat.{length-points, points-append}
use Rattle.arcstring.proofs.Numbered.{numbered-append, numbered-splice, length-numbered}
use Rattle.arcstring_piece.specs.declared.inner.pieces.Pieces.{Pieces}
use Rattle.arcstring_piece.specs.Pieces.{piece, pieces_of, first_pieces, sum, all_some, Stands}
use Rattle.arcstring_piece.specs.Standing.{standing}
use Rattle.arcstring.specs.Written.{points_in}
use Rattle.arcstring_piece.specs.Cut.{no_string}
use Rattle.arcstring_piece.proofs.inner.replace.Sums.{sum_split, some_long, some_among}
use Rattle.arcstring_piece.proofs.inner.replace.Pieces.{pieces_length, pieces_there}
use Rattle.arcstring_piece.proofs.inner.replace.Cuts.{replaced, first_replaced, replaced-length, replaced-sum, replaced_some, cut_points, cut_pieces}
use Rattle.arcstring_piece.proofs.inner.piece.TwoLists.{first_numbered, past_numbered}

-- ---- vertices written over others

-- a part of the floats and of the numbers is that part of the vertices
pub numbered-part : (v : List Float) (bs : List ℕ) (at n : ℕ) →
    numbered (points (take (3 * n) (drop (3 * at) v))) (take n (drop at bs)) ≡ take n (drop at (numbered (points v) bs))
numbered-part v bs at n = first_numbered n (drop (3 * at) v) (drop at bs) ∙ ap (take n) (past_numbered at v bs)

-- `old` vertices from `at` on made the first `size` of other lists, and the `rest` after them: what is written over in floats and numbers is so in the vertices
run_numbered : (work fresh : List Float) (buoys numbers : List ℕ) (n at old size rest : ℕ) → length work ≡ 3 * n → length buoys ≡ n →
    at + old + rest ≤ n → at + size + rest ≤ n → 3 * size ≤ length fresh → size ≤ length numbers →
    numbered (points (splice work (3 * at) (take (3 * size) fresh ++ take (3 * rest) (drop (3 * (at + old)) work))))
    (splice buoys at (take size numbers ++ take rest (drop (at + old) buoys)))
    ≡ splice (numbered (points work) buoys) at (take size (numbered (points fresh) numbers) ++ take rest (drop (at + old) (numbered (points work) buoys)))
run_numbered work fresh buoys numbers n at old size rest whole same was will known given =
    let new = take (3 * size) fresh in
    let run = take (3 * rest) (drop (3 * (at + old)) work) in
    let count = take size numbers in
    let kept = take rest (drop (at + old) buoys) in
    let l1 : length new ≡ 3 * size = length-take-le (3 * size) fresh known in
    let l2 : length run ≡ 3 * rest = length-take-le (3 * rest) (drop (3 * (at + old)) work) (rw length-drop (omega arith)) in
    let l3 : length count ≡ size = length-take-le size numbers given in
    let l4 : length kept ≡ rest = length-take-le rest (drop (at + old) buoys) (rw length-drop (omega arith)) in
    numbered-splice work (new ++ run) buoys (count ++ kept) n at (size + rest) whole same (length-append new run ∙ omega arith)
    (length-append count kept ∙ omega arith) (omega arith)
    ∙ ap (splice (numbered (points work) buoys) at)
    (ap (λ (ps : List SphericalPoint). numbered ps (count ++ kept)) (points-append size new run l1)
    ∙ numbered-append (points new) (points run) count kept (length-points size new l1 ∙ sym l3)
    ∙ ap₂ (λ (a b : List Vertex). a ++ b) (numbered-part fresh numbers 0 size) (numbered-part work buoys (at + old) rest))

-- ---- pieces that stand in lists

module _ (p : Pieces) where
  -- the vertices of the lists, with their numbers
  abbrev pub vertices_in : List Vertex
  vertices_in = numbered (points p.v) p.buoys

  pub count_length : length (take p.count p.counts) ≡ p.count
  count_length = length-take-le p.count p.counts (omega (arith, p.stands.counts-room, p.stands.pieces))

  pub flag-length : length (take p.count p.closed) ≡ p.count
  flag-length = length-take-le p.count p.closed (omega (arith, p.stands.flags-room, p.stands.pieces))

  pub vertex_count : length vertices_in ≡ most_points
  vertex_count =
      let l = length-points most_points p.v p.stands.floats in
      length-numbered (points p.v) p.buoys (p.stands.buoys_room ∙ sym l) ∙ l

  pub same_length : length (take p.count p.counts) ≡ length (take p.count p.closed)
  same_length = count_length ∙ sym flag-length

  pub first_length : length (standing p) ≡ p.count
  unfolding first_pieces
  first_length = pieces_length (take p.count p.counts) (take p.count p.closed) vertices_in same_length ∙ count_length

  pub enough : sum (take p.count p.counts) ≤ length vertices_in
  enough = omega (arith, vertex_count, p.stands.limit)

  -- ---- at place k

  module _ (k : ℕ) (h : k < p.count) where
    in_counts : k < length (take p.count p.counts)
    in_counts = omega (arith, count_length)

    at_place : sum (take k (take p.count p.counts)) ≡ sum (take k p.counts)
    at_place = ap sum (take-take k p.count p.counts (omega arith))

    count_at : get_or (take p.count p.counts) k 0 ≡ get_or p.counts k 0
    count_at = get_or-take p.count p.counts k 0 h

    flag_at : get_or (take p.count p.closed) k false ≡ get_or p.closed k false
    flag_at = get_or-take p.count p.closed k false h

    -- the points before place k, those there, and those after it
    pub all_points : sum (take p.count p.counts) ≡ sum (take k p.counts) + get_or p.counts k 0 + sum (drop (k + 1) (take p.count p.counts))
    all_points = sum_split p.counts p.count k h (omega (arith, p.stands.counts-room, p.stands.pieces))

    pub place_some : 1 ≤ get_or p.counts k 0
    place_some = some_among p.counts p.count k h (omega (arith, p.stands.counts-room, p.stands.pieces)) p.stands.some

    -- the string there
    pub place_string : get_or (standing p) k no_string
        ≡ piece (take (get_or p.counts k 0) (drop (sum (take k p.counts)) vertices_in)) (get_or p.closed k false)
    unfolding first_pieces
    place_string =
        pieces_there (take p.count p.counts) (take p.count p.closed) vertices_in k same_length in_counts
        ∙ (λ i. piece (take (count_at i) (drop (at_place i) vertices_in)) (flag_at i))

    -- the pieces with s and t in the place of the string there
    abbrev pub cut_in : StringOf Vertex → StringOf Vertex → List (StringOf Vertex)
    cut_in s t = take k (standing p) ++ (s ∷ t ∷ drop (k + 1) (standing p))

    abbrev old : ℕ
    old = get_or p.counts k 0

    module _ (at total : ℕ) (starts : at ≡ sum (take k p.counts)) (all : total ≡ sum (take p.count p.counts)) where
      -- it lies within all, which are at most so many
      pub place_within : (at + old ≤ total) × (total ≤ most_points)
      place_within = (omega (arith, all_points), omega (arith, p.stands.limit))

      rest_points : total - (at + old) ≡ sum (drop (k + 1) (take p.count p.counts))
      rest_points = omega (arith, all_points)

      pub cut_size : (s t : StringOf Vertex) (x y : ℕ) → x ≡ length s.vertices → y ≡ length t.vertices →
          points_in (cut_in s t) ≡ at + (x + y) + (total - (at + old))
      unfolding first_pieces
      cut_size s t x y e f =
          cut_points (take p.count p.counts) (take p.count p.closed) vertices_in k same_length in_counts enough s t
          ∙ omega (arith, at_place, rest_points)

      -- room for one piece more, since none is empty
      pub cut_few : (x y : ℕ) → at + (x + y) + (total - (at + old)) ≤ most_points → 1 ≤ x → 1 ≤ y → p.count < most_points
      cut_few x y fits hx hy =
          let s : all_some (replaced (take p.count p.counts) k x y) ≡ true = replaced_some (take p.count p.counts) k x y hx hy p.stands.some in
          let long = some_long (replaced (take p.count p.counts) k x y) s in
          let sums = replaced-sum (take p.count p.counts) k x y in
          omega (arith, replaced-length (take p.count p.counts) k x y in_counts, count_length, at_place, rest_points)

      -- what is written
      module _ (us vs : List Vertex) (a b : Bool) (x y : ℕ) (fresh v' : List Float) (numbers buoys' counts' : List ℕ) (closed' : List Bool)
          (q : x ≡ length us) (r : y ≡ length vs) (fits : at + (x + y) + (total - (at + old)) ≤ most_points)
          (c : counts' ≡ splice p.counts k (x ∷ y ∷ take (p.count - (k + 1)) (drop (k + 1) p.counts))) where
        new_counts : take (p.count + 1) counts' ≡ replaced (take p.count p.counts) k x y
        new_counts = first_replaced p.counts counts' p.count k x y h (omega (arith, p.stands.counts-room, p.stands.pieces)) c

        pub cut_held : 3 * (x + y) ≤ length fresh → x + y ≤ length numbers → take (x + y) (numbered (points fresh) numbers) ≡ us ++ vs →
            v' ≡ splice p.v (3 * at) (take (3 * (x + y)) fresh ++ take (3 * (total - (at + old))) (drop (3 * (at + old)) p.v)) →
            buoys' ≡ splice p.buoys at (take (x + y) numbers ++ take (total - (at + old)) (drop (at + old) p.buoys)) →
            closed' ≡ splice p.closed k (a ∷ b ∷ take (p.count - (k + 1)) (drop (k + 1) p.closed)) →
            first_pieces (p.count + 1) v' buoys' counts' closed' ≡ cut_in (piece us a) (piece vs b)
        unfolding first_pieces splice
        cut_held known given built w u fl =
            let new_flags : take (p.count + 1) closed' ≡ replaced (take p.count p.closed) k a b =
            first_replaced p.closed closed' p.count k a b h (omega (arith, p.stands.flags-room, p.stands.pieces)) fl in
            let e : at ≡ sum (take k (take p.count p.counts)) = starts ∙ sym at_place in
            let o : at + old ≡ sum (take k (take p.count p.counts)) + get_or (take p.count p.counts) k 0 = omega (arith, at_place, count_at) in
            let was : at + old + (total - (at + old)) ≤ most_points = omega (arith, place_within) in
            let first = take (x + y) (numbered (points fresh) numbers) in
            let run = take (total - (at + old)) (drop (at + old) vertices_in) in
            let tail = drop (at + length (first ++ run)) vertices_in in
            let whole : numbered (points v') buoys' ≡ take at vertices_in ++ (first ++ (run ++ tail)) =
            ap₂ (λ (v : List Float) (bs : List ℕ). numbered (points v) bs) w u
            ∙ run_numbered p.v fresh p.buoys numbers most_points at old (x + y) (total - (at + old)) p.stands.floats p.stands.buoys_room was fits known given
            ∙ ap (λ (xs : List Vertex). take at vertices_in ++ xs) (append_assoc first run tail) in
            let xs : numbered (points v') buoys' ≡ take (sum (take k (take p.count p.counts))) vertices_in
            ++ ((us ++ vs)
            ++ (take (sum (drop (k + 1) (take p.count p.counts)))
            (drop (sum (take k (take p.count p.counts)) + get_or (take p.count p.counts) k 0) vertices_in) ++ tail)) =
            whole ∙ (λ i. take (e i) vertices_in ++ (built i ++ (take (rest_points i) (drop (o i) vertices_in) ++ tail))) in
            (λ i. pieces_of (new_counts i) (new_flags i) (numbered (points v') buoys'))
            ∙ cut_pieces (take p.count p.counts) (take p.count p.closed) vertices_in k same_length in_counts enough x y a b us vs tail
            (numbered (points v') buoys') (sym q) (sym r) xs

        pub cut_stands : 1 ≤ x → 1 ≤ y → length v' ≡ length p.v → length buoys' ≡ length p.buoys → length counts' ≡ length p.counts →
            length closed' ≡ length p.closed → Stands (p.count + 1) v' buoys' counts' closed'
        cut_stands hx hy lv lb lc lf =
            record {
              floats = lv ∙ p.stands.floats;
              buoys_room = lb ∙ p.stands.buoys_room;
              counts-room = lc ∙ p.stands.counts-room;
              flags-room = lf ∙ p.stands.flags-room;
              pieces = omega (arith, cut_few x y fits hx hy);
              some = ap all_some new_counts ∙ replaced_some (take p.count p.counts) k x y hx hy p.stands.some;
              limit = omega (arith, ap sum new_counts, replaced-sum (take p.count p.counts) k x y, at_place, rest_points);
            }
