-- Laws of the walks over places: the copy that is taken of the string at a place, where the next place starts, and the walk over all places and all points.
-- Assumes nothing.
use Rattle.std.specs.Prelude.{Err}
use mathlib.Core.Path.{◌≡◌, refl, sym, ap, ap₂, ◌∙◌}
use mathlib.Core.Bool.{false}
use mathlib.Core.List.{List, ◌∷◌}
use Prim.Native.Nat.{ℕ, ◌+◌, ◌*◌, ◌≤◌, ◌<◌}
use native.Mathlib.Omega.{arith}
use lib.Ieee.{Float}
use lib.ListN.{length, get_or, take, drop, length-drop}
use lib.Seq.{length-take-le}
use Rattle.arcstring_check.specs.declared.check.Refusal.{Refusal}
use Rattle.arcstring.specs.declared.inner.vertex.Vertex.{Vertex}
use Rattle.arcstring_check.specs.Answer.{Answer, answered, refusal_number}
use Rattle.arcstring.specs.Points.{StringOf, numbered, place_of, points}
use Rattle.arcstring.specs.Positions.{vertex_at}
use Rattle.arcstring.specs.Splice.{splice}
use Rattle.arcstring.specs.Leg.{leg_count}
use Rattle.arcstring_check.specs.Check.{most_points}
use Rattle.arcstring.proofs.Flat.{length-points}
use Rattle.arcstring.proofs.Numbered.{length-numbered}
use Rattle.arcstring.proofs.Splices.{take_past_splice}
use Rattle.arcstring_build.specs.Build.{built_numbered}
use Rattle.arcstring_insert.specs.Steps.{for_positions, for_each}
use Rattle.arcstring_insert.proofs.Steps.{each_on, each_stops, each_end, vertices_next}
use Rattle.arcstring_piece.specs.declared.inner.pieces.Pieces.{Pieces}
use Rattle.arcstring_piece.specs.Cut.{cut_at_leg, cut_place, cut_string}
use Rattle.arcstring_piece.specs.Pieces.{sum}
use Rattle.arcstring_piece.specs.Standing.{standing, held_pieces}
use Rattle.arcstring_piece.proofs.inner.replace.Sums.{sum-next}
use Rattle.arcstring_piece.proofs.inner.pieces.CutLists.{numbered-part, vertices_in, vertex_count, first_length, all_points, place_string}
use Rattle.arcstring_cut.proofs.inner.cut_place.CutWalks.{Walks, walk_step, place_longer, leg_step}

-- ---- the walk over a copy of the string at place k

-- a part that was copied to the start of a list
copied-part : {A : Type 0} (l old new : List A) (at n : ℕ) → at + n ≤ length l → new ≡ splice old 0 (take n (drop at l)) → take n new ≡ take n (drop at l)
copied-part l old new at n room e =
    let part = take n (drop at l) in
    let long : n ≡ 0 + length part = let t : length part ≡ n = length-take-le n (drop at l) (rw length-drop (omega arith)) in omega arith in
    ap₂ take long e ∙ take_past_splice old 0 part (omega arith)

module _ (p : Pieces) (k : ℕ) (h : k < p.count) (at : ℕ) (starts : at ≡ sum (take k p.counts)) where
  -- the string lies within the list, and has at most 1,024 points
  pub place_within : at + get_or p.counts k 0 ≤ most_points
  place_within = omega (arith, all_points p k h, p.stands.limit)

  -- and the next one starts where it ends
  pub next_starts : at + get_or p.counts k 0 ≡ sum (take (k + 1) p.counts)
  next_starts = omega (arith, sum-next p.counts k (omega (arith, p.stands.counts-room, p.stands.pieces)))

  -- a walk over a copy of the string there is the step at place k
  pub place_walk : (x : Vertex) (copy copy' : List Float) (numbers numbers' : List ℕ) (legs : ℕ) (a : Answer (List (StringOf Vertex))) →
      copy' ≡ splice copy 0 (take (3 * get_or p.counts k 0) (drop (3 * at) p.v)) →
      numbers' ≡ splice numbers 0 (take (get_or p.counts k 0) (drop at p.buoys)) → legs ≡ leg_count (get_or p.counts k 0) (get_or p.closed k false) →
      a ≡ for_positions (leg_step x (take (3 * get_or p.counts k 0) copy') (take (get_or p.counts k 0) numbers') k) 0 legs (standing p) →
      a ≡ cut_place place_of built_numbered x k (standing p)
  unfolding cut_place
  place_walk x copy copy' numbers numbers' legs a copied carried count walk =
      let n = get_or p.counts k 0 in
      let ss = standing p in
      let closed = get_or p.closed k false in
      let there = take n (drop at (vertices_in p)) in
      let floats : take (3 * n) copy' ≡ take (3 * n) (drop (3 * at) p.v) =
      copied-part p.v copy copy' (3 * at) (3 * n) (omega (arith, place_within, p.stands.floats)) copied in
      let buoys : take n numbers' ≡ take n (drop at p.buoys) =
      copied-part p.buoys numbers numbers' at n (omega (arith, place_within, p.stands.buoys_room)) carried in
      let part : numbered (points (take (3 * n) copy')) (take n numbers') ≡ there =
      ap₂ (λ (v : List Float) (bs : List ℕ). numbered (points v) bs) floats buoys ∙ numbered-part p.v p.buoys at n in
      let l : length there ≡ n = length-take-le n (drop at (vertices_in p)) (rw length-drop (omega (arith, place_within, vertex_count p))) in
      walk ∙ (λ i. for_positions (cut_at_leg place_of built_numbered x (part i) k) 0 (count i) ss)
      ∙ ap (λ (j : ℕ). for_positions (cut_at_leg place_of built_numbered x there k) 0 (leg_count j closed) ss) (sym l)
      ∙ ap (λ (j : ℕ). for_positions (cut_at_leg place_of built_numbered x (take n (drop j (vertices_in p))) k) 0
      (leg_count (length (take n (drop j (vertices_in p)))) closed) ss) starts
      ∙ ap (λ (s : StringOf Vertex). for_positions (cut_at_leg place_of built_numbered x s.vertices k) 0 (leg_count (length s.vertices) s.closed) ss)
      (sym (place_string p k h))

-- ---- the walk over all places

-- once the string at place k is cut: the next place starts within the list, where the one at k ends, and the walk goes on there
pub place_step : (x : Vertex) (p p' : Pieces) (whole : Answer (List (StringOf Vertex))) (m k at : ℕ) →
    Walks (cut_place place_of built_numbered x) whole m m k p → k < m →
    answered (standing p') ≡ cut_place place_of built_numbered x k (standing p) → at ≡ sum (take k p.counts) → take k p'.counts ≡ take k p.counts →
    (at + get_or p'.counts k 0 ≤ most_points) × (at + get_or p'.counts k 0 ≡ sum (take (k + 1) p'.counts))
    × Walks (cut_place place_of built_numbered x) whole m m (k + 1) p'
place_step x p p' whole m k at walks h step starts same =
    let on = walk_step (cut_place place_of built_numbered x) m p whole m k walks p' h (place_longer x k) step in
    let low : k < p'.count = omega (arith, on.no_fewer) in
    let starts' : at ≡ sum (take k p'.counts) = starts ∙ ap sum (sym same) in
    (place_within p' k low at starts', next_starts p' k low at starts', on)

pub string_walk : (x : Vertex) (p : Pieces) →
    for_positions (cut_place place_of built_numbered x) 0 p.count (standing p) ≡ cut_string place_of built_numbered x (standing p)
unfolding cut_string
string_walk x p = ap (λ (n : ℕ). for_positions (cut_place place_of built_numbered x) 0 n (standing p)) (sym (first_length p))

-- ---- all points

module _ (extra : List Float) (numbers : List ℕ) (all : length extra ≡ 3 * length numbers) (whole : Answer (List (StringOf Vertex))) (i : ℕ)
    (ss : List (StringOf Vertex))
    (goes_on : for_each (cut_string place_of built_numbered) (drop i (numbered (points extra) numbers)) ss ≡ whole) where
  abbrev xs : List Vertex
  xs = numbered (points extra) numbers

  abbrev cuts : Vertex → List (StringOf Vertex) → Answer (List (StringOf Vertex))
  cuts = cut_string place_of built_numbered

  many : length xs ≡ length numbers
  many = let l = length-points (length numbers) extra all in length-numbered (points extra) numbers (sym l) ∙ l

  pub points_end : length numbers ≤ i → answered ss ≡ whole
  points_end h = sym (each_end cuts xs i ss (omega (arith, many))) ∙ goes_on

  module _ (h : i < length numbers) (x : Vertex) (read : x ≡ vertex_at extra numbers i) (p : Pieces) where
    next : drop i xs ≡ x ∷ drop (i + 1) xs
    next = vertices_next extra numbers (length numbers) i all refl h ∙ ap (λ (z : Vertex). z ∷ drop (i + 1) xs) (sym read)

    pub points-step : answered (standing p) ≡ cuts x ss → for_each cuts (drop (i + 1) xs) (standing p) ≡ whole
    points-step step = sym (each_on cuts xs i ss x next (standing p) (sym step)) ∙ goes_on

    pub points_stop : (e : Refusal) → held_pieces (Err e) p ≡ cuts x ss → held_pieces (Err e) p ≡ whole
    points_stop e step = sym (each_stops cuts xs i ss x next (refusal_number e) (sym step)) ∙ goes_on
