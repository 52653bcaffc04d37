-- Laws of a cut in the lists that pieces stand in: a mark put in twice makes two pieces of one, and pieces stand there still. Assumes nothing.
use mathlib.Core.Path.{◌≡◌, sym, ap, ap₂, ◌∙◌}
use mathlib.Core.Bool.{Bool, true, false, ◌||◌}
use mathlib.Core.List.{List, [], ◌∷◌, ◌++◌, map, append_assoc, map-id}
use mathlib.Core.Option.{none, some}
use Prim.Native.Nat.{ℕ, ◌+◌, ◌-◌, ◌*◌, ◌≤◌, ◌<◌}
use native.Mathlib.Omega.{arith}
use lib.ListN.{length, get_or, take, drop, length-drop, take-append-drop}
use lib.Seq.{length-take-le, take_all, take-take, take-add, drop-drop, take_at, drop_at, drop-append-le, get_or-take}
use lib.Ieee.{Float}
use Rattle.sphericalpoint.specs.declared.SphericalPoint.{SphericalPoint}
use Rattle.sphericalpoint.specs.Vector.{xyz_eq}
use Rattle.arcstring_check.specs.Answer.{refused, answered, pick}
use Rattle.arcstring_check.specs.Check.{most_points}
use Rattle.arcstring.specs.declared.inner.vertex.Vertex.{Vertex}
use Rattle.arcstring.specs.Points.{numbered, place_of, itself, points, no_point}
use Rattle.arcstring.specs.Splice.{splice}
use Rattle.arcstring.proofs.Flat.{length-points}
use Rattle.arcstring.proofs.Numbered.{map-take, map-drop, all_places, length-numbered}
use Rattle.arcstring_insert.specs.Insert.{insert_at}
use Rattle.arcstring_insert.proofs.Inserted.{length_inserted}
use Rattle.arcstring_insert.proofs.Steps.{over_limit, at_most_limit}
use Rattle.arcstring_piece.specs.Pieces.{sum, all_some}
use Rattle.arcstring_piece.proofs.inner.replace.Sums.{sum-next, sum_split, some_among}
use Rattle.arcstring_piece.proofs.inner.replace.Cuts.{replaced, first_replaced, replaced-sum, replaced_some}
use Rattle.arcstring_mark_cut.specs.declared.pieces.Opened.{Opened}
use Rattle.arcstring_mark_cut.specs.CutAtMarks.{together, part_before, part_after, at_piece_end, checked_cut}
use Rattle.arcstring_mark_cut.specs.Standing.{opened_room, in_pieces, standing, cut_there, Stands}
use Rattle.arcstring_mark_cut.specs.OpenedPieces.{pieces_of}
use Rattle.arcstring_mark_cut.proofs.OnePieceCut.{length_before, length_after}
use Rattle.arcstring_mark_cut.proofs.InPieces.{in_same, in_together, in_there, in_all, in_two}

-- ---- an element put in twice

insert_twice : {A : Type 0} (q : ℕ) (x : A) (xs : List A) → q ≤ length xs → insert_at q x (insert_at q x xs) ≡ take q xs ++ (x ∷ x ∷ drop q xs)
unfolding insert_at
insert_twice {A} q x xs h =
    let l : length (take q xs) ≡ q = length-take-le q xs h in
    ap₂ (λ (ys zs : List A). ys ++ (x ∷ zs)) (take_at (take q xs) (x ∷ drop q xs) q l) (drop_at (take q xs) (x ∷ drop q xs) q l)

-- put in among the first t elements, and once more among those and it
put_twice : {A : Type 0} (q t all : ℕ) (x : A) (xs ys zs : List A) → t ≡ all → take (t + 1) ys ≡ insert_at q x (take t xs)
    → take (t + 1 + 1) zs ≡ insert_at q x (take (t + 1) ys) → take (all + 2) zs ≡ insert_at q x (insert_at q x (take all xs))
put_twice q t all x xs ys zs e one two =
    let n : all + 2 ≡ t + 1 + 1 = omega arith in
    ap (λ (j : ℕ). take j zs) n ∙ two ∙ ap (insert_at q x) (one ∙ ap (λ (j : ℕ). insert_at q x (take j xs)) e)

-- ---- among pieces that fill a list: into piece k, after its element i

module _ {A : Type 0} (cs : List ℕ) (xs : List A) (k i : ℕ) (x : A) (h : k < length cs) (fills : length xs ≡ sum cs) (inside : i + 1 < get_or cs k 0) where
  abbrev at : ℕ
  at = sum (take k cs)

  abbrev old : ℕ
  old = get_or cs k 0

  abbrev piece : List A
  piece = take old (drop at xs)

  abbrev twice : List A
  twice = insert_at (at + i + 1) x (insert_at (at + i + 1) x xs)

  ends : at + old + sum (drop (k + 1) cs) ≡ length xs
  ends = in_all cs xs k h (omega arith) ∙ sym fills

  piece-length : length piece ≡ old
  piece-length = length-take-le old (drop at xs) (rw length-drop (omega (arith, ends)))

  before_length : length (part_before x i piece) ≡ i + 2
  before_length = length_before x i piece (omega (arith, piece-length))

  after_length : length (part_after x i piece) ≡ old - i
  after_length = length_after x i piece (omega (arith, piece-length)) ∙ ap (λ (n : ℕ). n - i) piece-length

  twice_as : twice ≡ take at xs ++ ((part_before x i piece ++ part_after x i piece) ++ take (sum (drop (k + 1) cs)) (drop (at + old) xs))
  unfolding part_before part_after
  twice_as =
      let d = drop at xs in
      let past = drop (at + old) xs in
      let q : at + i + 1 ≡ at + (i + 1) = omega arith in
      let front : take (at + (i + 1)) xs ≡ take at xs ++ take (i + 1) piece =
      take-add at (i + 1) xs ∙ ap (λ (ys : List A). take at xs ++ ys) (sym (take-take (i + 1) old d (omega arith))) in
      let back : drop (at + (i + 1)) xs ≡ drop (i + 1) piece ++ past =
      sym (drop-drop (i + 1) at xs)
      ∙ ap (drop (i + 1)) (sym (take-append-drop old d))
      ∙ drop-append-le (i + 1) piece (drop old d) (omega (arith, piece-length))
      ∙ ap (λ (ys : List A). drop (i + 1) piece ++ ys) (drop-drop old at xs) in
      let all : past ≡ take (sum (drop (k + 1) cs)) past = sym (take_all (sum (drop (k + 1) cs)) past (rw length-drop (omega (arith, ends)))) in
      insert_twice (at + i + 1) x xs (omega (arith, ends))
      ∙ ap (λ (j : ℕ). take j xs ++ (x ∷ x ∷ drop j xs)) q
      ∙ ap₂ (λ (ys zs : List A). ys ++ (x ∷ x ∷ zs)) front (back ∙ ap (λ (ys : List A). drop (i + 1) piece ++ ys) all)
      ∙ append_assoc (take at xs) (take (i + 1) piece) _
      ∙ ap (λ (ys : List A). take at xs ++ ys)
      (sym (append_assoc (take (i + 1) piece ++ (x ∷ [])) (x ∷ drop (i + 1) piece) (take (sum (drop (k + 1) cs)) past)
      ∙ append_assoc (take (i + 1) piece) (x ∷ []) _))

  -- the pieces with two in the place of piece k
  abbrev pub cut : List (List A)
  cut =
      take k (in_pieces cs xs)
      ++ (part_before x i (get_or (in_pieces cs xs) k []) ∷ part_after x i (get_or (in_pieces cs xs) k []) ∷ drop (k + 1) (in_pieces cs xs))

  pub cut_in_list : in_pieces (replaced cs k (i + 2) (old - i)) twice ≡ cut
  cut_in_list =
      ap₂ (λ (a b : ℕ). in_pieces (replaced cs k a b) twice) (sym before_length) (sym after_length)
      ∙ in_two cs xs k h (omega arith) (part_before x i piece) (part_after x i piece) twice twice_as
      ∙ ap (λ (ys : List A). take k (in_pieces cs xs) ++ (part_before x i ys ∷ part_after x i ys ∷ drop (k + 1) (in_pieces cs xs)))
      (sym (in_there cs xs k h))

  pub cut_sum : sum (replaced cs k (i + 2) (old - i)) ≡ sum cs + 2
  cut_sum = omega (arith, replaced-sum cs k (i + 2) (old - i), ends)

  twice_length : length twice ≡ sum cs + 2
  twice_length = length_inserted (at + i + 1) x (insert_at (at + i + 1) x xs) ∙ omega (arith, length_inserted (at + i + 1) x xs)

  pub cut_together : together cut ≡ sum cs + 2
  cut_together = ap together (sym cut_in_list) ∙ in_together (replaced cs k (i + 2) (old - i)) twice (omega (arith, cut_sum, twice_length)) ∙ cut_sum

-- ---- in the local lists

-- the vertices that stand in them fill what the s.counts say
module _ (s : Opened) where
  abbrev vertices_in_lem : List Vertex
  vertices_in_lem = numbered (points s.v) s.buoys

  abbrev total : ℕ
  total = sum (take s.count s.counts)

  pub as_many : length s.buoys ≡ length (points s.v)
  as_many = s.stands.buoys_room ∙ sym (length-points opened_room s.v s.stands.floats)

  pub room_for_all : length vertices_in_lem ≡ opened_room
  room_for_all = length-numbered (points s.v) s.buoys as_many ∙ sym as_many ∙ s.stands.buoys_room

  pub filled : length (take total vertices_in_lem) ≡ total
  filled = let l = s.stands.limit in length-take-le total vertices_in_lem (omega (arith, room_for_all))

  -- there is a count for each piece, and room for more
  pub few_pieces : s.count < most_points
  few_pieces = let l = s.stands.limit in let p = s.stands.points in omega arith

  pub counts_length : length (take s.count s.counts) ≡ s.count
  counts_length = let r = s.stands.counts-room in length-take-le s.count s.counts (omega (arith, few_pieces))

  pub standing_in_all : pieces_of s ≡ in_pieces (take s.count s.counts) (take total vertices_in_lem)
  unfolding standing
  standing_in_all = in_same (take s.count s.counts) vertices_in_lem (take total vertices_in_lem) (sym (take-take total total vertices_in_lem (omega arith)))

  pub all_points : sum (take s.count s.counts) ≡ s.points + 2 * (s.count - 1)
  all_points = let p = s.stands.points in let q = s.stands.pieces in omega arith

  -- x put in twice among the vertices that stand in them
  pub both_put : (x : Vertex) (q : ℕ) (v w : List Float) (bs cs : List ℕ)
      → take (s.points + 2 * (s.count - 1) + 1) (numbered (points v) bs) ≡ insert_at q x (take (s.points + 2 * (s.count - 1)) vertices_in_lem)
      → take (s.points + 2 * (s.count - 1) + 1 + 1) (numbered (points w) cs) ≡ insert_at q x (take (s.points + 2 * (s.count - 1) + 1) (numbered (points v) bs))
      → take (total + 2) (numbered (points w) cs) ≡ insert_at q x (insert_at q x (take total vertices_in_lem))
  both_put x q v w bs cs one two = put_twice q _ total x vertices_in_lem (numbered (points v) bs) (numbered (points w) cs) (sym all_points) one two

  -- piece k, whose leg i holds the mark x
  module _ (k : ℕ) (h : k < s.count) where
    in_counts : k < length (take s.count s.counts)
    in_counts = omega (arith, counts_length)

    before_k : sum (take k (take s.count s.counts)) ≡ sum (take k s.counts)
    before_k = ap sum (take-take k s.count s.counts (omega arith))

    count_k : get_or (take s.count s.counts) k 0 ≡ get_or s.counts k 0
    count_k = get_or-take s.count s.counts k 0 h

    pub piece_some : 1 ≤ get_or s.counts k 0
    piece_some = let r = s.stands.counts-room in some_among s.counts s.count k h (omega (arith, few_pieces)) s.stands.some

    pub piece-within : sum (take k s.counts) + get_or s.counts k 0 ≤ total
    piece-within = let r = s.stands.counts-room in omega (arith, sum_split s.counts s.count k h (omega (arith, few_pieces)))

    -- it lies within all points, and these within the lists; `at` is where it starts
    pub piece_room : (at : ℕ) → at ≡ sum (take k s.counts)
        → (at + get_or s.counts k 0 ≤ s.points + 2 * (s.count - 1)) × (s.points + 2 * (s.count - 1) ≤ opened_room) × (length s.v ≡ 3 * opened_room)
        × (1 ≤ get_or s.counts k 0)
    piece_room at starts = let l = s.stands.limit in (omega (arith, piece-within, all_points), omega (arith, all_points), s.stands.floats, piece_some)

    -- and the next piece starts behind it
    pub next_start : (at : ℕ) → at ≡ sum (take k s.counts) → at + get_or s.counts k 0 ≡ sum (take (k + 1) s.counts)
    next_start at starts = let r = s.stands.counts-room in omega (arith, sum-next s.counts k (omega (arith, few_pieces)))

    pub piece_there : get_or (pieces_of s) k [] ≡ take (get_or s.counts k 0) (drop (sum (take k s.counts)) vertices_in_lem)
    unfolding standing
    piece_there =
        in_there (take s.count s.counts) vertices_in_lem k in_counts
        ∙ ap₂ (λ (c j : ℕ). take c (drop j vertices_in_lem)) count_k before_k

    -- its points
    pub piece_places : map place_of (get_or (pieces_of s) k []) ≡ take (get_or s.counts k 0) (drop (sum (take k s.counts)) (points s.v))
    piece_places =
        ap (map place_of) piece_there
        ∙ map-take place_of (get_or s.counts k 0) (drop (sum (take k s.counts)) vertices_in_lem)
        ∙ ap (take (get_or s.counts k 0)) (map-drop place_of (sum (take k s.counts)) vertices_in_lem
        ∙ ap (drop (sum (take k s.counts))) (all_places (points s.v) s.buoys as_many))

    pub end_of_piece : (x : Vertex) (at : ℕ) → at ≡ sum (take k s.counts)
        → at_piece_end itself x.place (take (get_or s.counts k 0) (drop at (points s.v))) ≡ at_piece_end place_of x (get_or (pieces_of s) k [])
    unfolding at_piece_end
    end_of_piece x at starts =
        let ps = take (get_or s.counts k 0) (drop at (points s.v)) in
        let e : map itself ps ≡ map place_of (get_or (pieces_of s) k []) =
        map-id ps ∙ ap (λ (j : ℕ). take (get_or s.counts k 0) (drop j (points s.v))) starts ∙ sym piece_places in
        ap (λ (qs : List SphericalPoint). xyz_eq x.place (get_or qs 0 no_point) || xyz_eq x.place (get_or qs (length qs - 1) no_point)) e

    -- b whether the mark equals an end of it
    module _ (i : ℕ) (x : Vertex) (b : Bool) (at : ℕ) (starts : at ≡ sum (take k s.counts))
        (tested : b ≡ at_piece_end itself x.place (take (get_or s.counts k 0) (drop at (points s.v)))) where
      abbrev ps : List (List Vertex)
      ps = pieces_of s

      -- the pieces with two in the place of piece k
      abbrev cut_ps : List (List Vertex)
      cut_ps = take k ps ++ (part_before x i (get_or ps k []) ∷ part_after x i (get_or ps k []) ∷ drop (k + 1) ps)

      by_end_lem : (t : Bool) → b ≡ t → checked_cut place_of ps (cut_there x k i ps) ≡ checked_cut place_of ps (pick t none (some cut_ps))
      unfolding cut_there
      by_end_lem t e = ap (λ (u : Bool). checked_cut place_of ps (pick u none (some cut_ps))) (sym (tested ∙ end_of_piece x at starts) ∙ e)

      pub cuts_nothing : b ≡ true → answered ps ≡ checked_cut place_of ps (cut_there x k i ps)
      cuts_nothing e = sym (by_end_lem true e)

      module _ (inside : i + 1 < get_or s.counts k 0) (other : b ≡ false) where
        inside_k : i + 1 < get_or (take s.count s.counts) k 0
        inside_k = omega (arith, count_k)

        -- as in the list that the pieces fill
        cut_as : cut_ps ≡ cut (take s.count s.counts) (take total vertices_in_lem) k i x in_counts filled inside_k
        cut_as = ap
            (λ (xss : List (List Vertex)). take k xss ++ (part_before x i (get_or xss k []) ∷ part_after x i (get_or xss k []) ∷ drop (k + 1) xss))
            standing_in_all

        points_then : together cut_ps ≡ total + 2
        points_then = ap together cut_as ∙ cut_together (take s.count s.counts) (take total vertices_in_lem) k i x in_counts filled inside_k

        pub one_too_many : most_points < total + 2 → refused 3 ≡ checked_cut place_of ps (cut_there x k i ps)
        one_too_many h = sym (by_end_lem false other ∙ over_limit (together cut_ps) cut_ps (omega (arith, points_then)))

        module _ (fits : total + 2 ≤ most_points) (work' : List Float) (buoys' counts' : List ℕ) (q : ℕ) (there : q ≡ at + i + 1)
            (put : take (total + 2) (numbered (points work') buoys') ≡ insert_at q x (insert_at q x (take total vertices_in_lem)))
            (counted : counts' ≡ splice s.counts k ((i + 2) ∷ (get_or s.counts k 0 - i) ∷ take (s.count - (k + 1)) (drop (k + 1) s.counts))) where
          new_counts : take (s.count + 1) counts' ≡ replaced (take s.count s.counts) k (i + 2) (get_or (take s.count s.counts) k 0 - i)
          new_counts =
              let r = s.stands.counts-room in
              first_replaced s.counts counts' s.count k (i + 2) (get_or s.counts k 0 - i) h (omega (arith, few_pieces)) counted
              ∙ ap (λ (c : ℕ). replaced (take s.count s.counts) k (i + 2) (c - i)) (sym count_k)

          new_sum : sum (take (s.count + 1) counts') ≡ total + 2
          new_sum = ap sum new_counts ∙ cut_sum (take s.count s.counts) (take total vertices_in_lem) k i x in_counts filled inside_k

          new_pieces : standing (s.count + 1) work' buoys' counts' ≡ cut_ps
          unfolding standing
          new_pieces =
              let vs = numbered (points work') buoys' in
              let e : q ≡ sum (take k (take s.count s.counts)) + i + 1 = omega (arith, before_k) in
              in_same (take (s.count + 1) counts') vs (take (total + 2) vs)
              (sym (ap (λ (j : ℕ). take j (take (total + 2) vs)) new_sum ∙ take-take (total + 2) (total + 2) vs (omega arith)
              ∙ ap (λ (j : ℕ). take j vs) (sym new_sum)))
              ∙ ap₂ in_pieces new_counts (put ∙ ap (λ (j : ℕ). insert_at j x (insert_at j x (take total vertices_in_lem))) e)
              ∙ cut_in_list (take s.count s.counts) (take total vertices_in_lem) k i x in_counts filled inside_k
              ∙ sym cut_as

          pub one_more_lem : answered (standing (s.count + 1) work' buoys' counts') ≡ checked_cut place_of ps (cut_there x k i ps)
          one_more_lem =
              ap answered new_pieces ∙ sym (by_end_lem false other ∙ at_most_limit (together cut_ps) cut_ps (omega (arith, points_then)))

          pub one_more_stands : length work' ≡ length s.v → length buoys' ≡ length s.buoys → length counts' ≡ length s.counts
              → Stands s.points (s.count + 1) work' buoys' counts'
          one_more_stands lw lb lc =
              record {
                floats = lw ∙ s.stands.floats;
                buoys_room = lb ∙ s.stands.buoys_room;
                counts-room = lc ∙ s.stands.counts-room;
                some = ap all_some new_counts
                    ∙ replaced_some (take s.count s.counts) k (i + 2) (get_or (take s.count s.counts) k 0 - i) (omega arith) (omega (arith, inside_k))
                    s.stands.some;
                pieces = omega arith;
                points = let p = s.stands.points in omega (arith, new_sum);
                limit = omega (arith, new_sum);
              }
