-- The walk of one mark over the pieces that stand in the local lists: past a piece that does not hold it, into the first that does, and past them all.
-- Assumes nothing.
use Rattle.std.specs.Prelude as Std
use Rattle.std.specs.Prelude.{Some, None}
use mathlib.Core.Path.{◌≡◌, refl, sym, ap, ap₂, ◌∙◌}
use mathlib.Core.Bool.{Bool, true, false}
use mathlib.Core.List.{List, [], ◌∷◌, ◌++◌, map, append_assoc}
use mathlib.Core.Option
use mathlib.Core.Option.{Option, none, some}
use Prim.Native.Nat.{ℕ, ◌+◌, ◌-◌, ◌*◌, ◌≤◌, ◌<◌}
use native.Mathlib.Numerals.{add-one}
use native.Mathlib.Omega.{arith}
use lib.ListN.{length, get_or, take, drop, length-drop, length-map, drop_of_length-le}
use lib.Seq.{length-take-le, take-suc}
use lib.Ieee.{Float}
use Rattle.arcstring_check.specs.Answer.{Answer, answered, pick, option_of}
use Rattle.arcstring.specs.declared.inner.vertex.Vertex.{Vertex}
use Rattle.arcstring.specs.Points.{place_of, points}
use Rattle.arcstring.specs.Leg.{legs, legs_from}
use Rattle.arcstring.proofs.Flat.{length-points, take-points, drop-points}
use Rattle.arcstring.proofs.Legs.{legs_whole, open_count}
use Rattle.arcstring_piece.specs.Pieces.{sum}
use Rattle.arcstring_mark.specs.Mark.{first_holding}
use Rattle.arcstring_mark_cut.specs.declared.pieces.Opened.{Opened}
use Rattle.arcstring_mark_cut.specs.CutAtMarks.{part_before, part_after, leg_holding, at_piece_end, cut_piece, cut_first, checked_cut, cut_at_mark}
use Rattle.arcstring_mark_cut.specs.Standing.{standing, cut_there}
use Rattle.arcstring_mark_cut.specs.OpenedPieces.{pieces_of}
use Rattle.arcstring_mark_cut.proofs.InPieces.{in_length, in_from, in_there}
use Rattle.arcstring_mark_cut.proofs.FoundCut.{leg_low}
use Rattle.arcstring_mark_cut.proofs.MarkCuts.{counts_length, piece_room, piece_places}

-- pieces before what a mark makes of others
abbrev pub behind : {A : Type 0} → List A → Option (List A) → Option (List A)
behind before o = Option.map (λ yss. before ++ yss) o

behind_none : {A : Type 0} (o : Option (List A)) → o ≡ behind [] o
behind_none none = refl
behind_none (some yss) = refl

behind_one : {A : Type 0} (before longer : List A) (xs : A) (o : Option (List A)) → longer ≡ before ++ (xs ∷ [])
    → behind before (Option.map (λ yss. xs ∷ yss) o) ≡ behind longer o
behind_one before longer xs none e = refl
behind_one before longer xs (some yss) e = ap some (sym (ap (λ l. l ++ yss) e ∙ append_assoc before (xs ∷ []) yss))

module _ (s : Opened) (x : Vertex) where
  abbrev ps : List (List Vertex)
  ps = pieces_of s

  ps_length : length ps ≡ s.count
  unfolding standing
  ps_length = in_length (take s.count s.counts) _ ∙ counts_length s

  -- before the first piece
  pub walk_begin : checked_cut place_of ps (behind (take 0 ps) (cut_first place_of x (drop 0 ps))) ≡ cut_at_mark place_of x ps
  unfolding cut_at_mark
  walk_begin = ap (checked_cut place_of ps) (sym (behind_none (cut_first place_of x ps)))

  -- k pieces do not hold the mark; what it makes of those from k on, behind them, is the whole answer
  module _ (k : ℕ) (whole : Answer (List (List Vertex))) (rest : checked_cut place_of ps (behind (take k ps) (cut_first place_of x (drop k ps))) ≡ whole) where
    pub walk_end : s.count ≤ k → answered ps ≡ whole
    unfolding cut_first
    walk_end h =
        let all : length ps ≤ k = omega (arith, ps_length) in
        let none_left : drop k ps ≡ [] = drop_of_length-le ps all in
        sym (ap (λ (xss : List (List Vertex)). checked_cut place_of ps (behind (take k ps) (cut_first place_of x xss))) none_left) ∙ rest

    -- v the floats of piece k, which has `size` vertices from `at` on
    module _ (h : k < s.count) (v : List Float) (size at : ℕ) (sized : size ≡ get_or s.counts k 0) (starts : at ≡ sum (take k s.counts))
        (part : v ≡ take (3 * (at + size) - 3 * at) (drop (3 * at) s.v)) where
      part_as : v ≡ take (3 * size) (drop (3 * at) s.v)
      part_as = let e : 3 * (at + size) - 3 * at ≡ 3 * size = omega arith in part ∙ ap (λ (j : ℕ). take j (drop (3 * at) s.v)) e

      pub part_length : length v ≡ 3 * size
      part_length = ap length part_as ∙ length-take-le (3 * size) (drop (3 * at) s.v) (rw length-drop (omega (arith, piece_room s k h at starts)))

      part-points : points v ≡ map place_of (get_or ps k [])
      part-points =
          ap points part_as
          ∙ take-points size (drop (3 * at) s.v)
          ∙ ap (take size) (drop-points at s.v)
          ∙ ap₂ (λ (c j : ℕ). take c (drop j (points s.v))) sized starts
          ∙ sym (piece_places s k h)

      -- f the first of its legs that holds the mark
      module _ (f : Std.Option ℕ) (found : option_of f ≡ first_holding x.place (legs_from v 0 (size - 1))) where
        held : option_of f ≡ leg_holding place_of x (get_or ps k [])
        unfolding leg_holding
        held =
            found
            ∙ ap (λ (l : ℕ). first_holding x.place (legs_from v 0 l)) (open_count size false refl)
            ∙ ap (first_holding x.place) (legs_whole v size false part_length)
            ∙ ap (λ qs. first_holding x.place (legs qs false)) part-points

        -- piece k, and the others
        here : drop k ps ≡ get_or ps k [] ∷ drop (k + 1) ps
        unfolding standing
        here =
            let low : k < length (take s.count s.counts) = omega (arith, counts_length s) in
            in_from (take s.count s.counts) _ k low ∙ ap (λ (xs : List Vertex). xs ∷ drop (k + 1) ps) (sym (in_there (take s.count s.counts) _ k low))

        one_piece : (o : Option ℕ) → option_of f ≡ o → cut_first place_of x (drop k ps) ≡ cut_piece place_of x (get_or ps k []) (drop (k + 1) ps) o
            (cut_first place_of x (drop (k + 1) ps))
        unfolding cut_first
        one_piece o e =
            ap (cut_first place_of x) here
            ∙ ap (λ (j : Option ℕ). cut_piece place_of x (get_or ps k []) (drop (k + 1) ps) j (cut_first place_of x (drop (k + 1) ps))) (sym held ∙ e)

        pub walk_on : f ≡ None → checked_cut place_of ps (behind (take (k + 1) ps) (cut_first place_of x (drop (k + 1) ps))) ≡ whole
        walk_on told =
            let longer : take (k + 1) ps ≡ take k ps ++ (get_or ps k [] ∷ []) = rw add-one (take-suc ps k [] (omega (arith, ps_length))) in
            ap (checked_cut place_of ps)
            (sym (ap (behind (take k ps)) (one_piece none (ap option_of told))
            ∙ behind_one (take k ps) (take (k + 1) ps) (get_or ps k []) (cut_first place_of x (drop (k + 1) ps)) longer))
            ∙ rest

        module _ (i : ℕ) (told : f ≡ Some i) where
          by_end_lem : (b : Bool) → at_piece_end place_of x (get_or ps k []) ≡ b
              → cut_there x k i ps
              ≡ behind (take k ps) (pick b none (some (part_before x i (get_or ps k []) ∷ part_after x i (get_or ps k []) ∷ drop (k + 1) ps)))
          unfolding cut_there
          by_end_lem true e =
              ap (λ (b : Bool). pick b none (some (take k ps ++ (part_before x i (get_or ps k []) ∷ part_after x i (get_or ps k []) ∷ drop (k + 1) ps)))) e
          by_end_lem false e =
              ap (λ (b : Bool). pick b none (some (take k ps ++ (part_before x i (get_or ps k []) ∷ part_after x i (get_or ps k []) ∷ drop (k + 1) ps)))) e

          pub walk_cuts : (r : Answer (List (List Vertex))) → r ≡ checked_cut place_of ps (cut_there x k i ps) → r ≡ whole
          walk_cuts r done =
              done
              ∙ ap (checked_cut place_of ps)
              (by_end_lem (at_piece_end place_of x (get_or ps k [])) refl ∙ ap (behind (take k ps)) (sym (one_piece (some i) (ap option_of told))))
              ∙ rest

          pub leg_inside : i + 1 < get_or s.counts k 0
          leg_inside =
              let low = leg_low place_of x (get_or ps k []) i (sym held ∙ ap option_of told) in
              omega (arith, low, length-map (get_or ps k []) place_of, ap length part-points, length-points size v part_length)
