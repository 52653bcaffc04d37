-- Laws of a cut at marks from its checks on: the opened string as the one piece that stands there at first, and what the call answers. Assumes nothing.
use Rattle.std.specs.Prelude.{Ok, Err}
use mathlib.Core.Path.{◌≡◌, refl, ap, ◌∙◌}
use mathlib.Core.Bool.{Bool}
use mathlib.Core.List.{List, [], ◌∷◌, map}
use mathlib.Core.Option.{Option}
use Prim.Native.Nat.{ℕ, ◌*◌, ◌≤◌}
use native.Mathlib.Omega.{arith}
use lib.Ieee.{Float}
use lib.ListN.{length, take}
use Rattle.arcstring_check.specs.declared.check.Refusal.{Refusal}
use Rattle.arcstring_check.specs.Answer.{Answer, refused, and_then, refusal_number}
use Rattle.arcstring_check.specs.Check.{string_check, points_check, most_points}
use Rattle.arcstring_check.proofs.Answers.{stopped, went_on}
use Rattle.arcstring.specs.declared.inner.vertex.Vertex.{Vertex}
use Rattle.arcstring.specs.Points.{StringOf, numbered, place_of, points}
use Rattle.arcstring_insert.specs.Steps.{for_each}
use Rattle.arcstring_split_leg.specs.SplitLeg.{unless_uncut}
use Rattle.arcstring_piece.specs.Pieces.{sum, all_some}
use Rattle.arcstring_piece.proofs.inner.replace.Sums.{some_cons}
use Rattle.arcstring_mark_cut.specs.declared.pieces.Opened.{Opened}
use Rattle.arcstring_mark_cut.specs.CutAtMarks.{opened, cut_at_mark, cut_at_each, open_string, cut_into, cut_checked, cut_at_marks}
use Rattle.arcstring_mark_cut.specs.Standing.{opened_room, in_pieces, standing, Stands}
use Rattle.arcstring_mark_cut.specs.OpenedPieces.{still_standing, handed_over}
use Rattle.arcstring_mark_cut.proofs.HandedPieces.{Handed, handed_by, handed_same}

-- ---- the opened string is the one piece

module _ (n : ℕ) (work : List Float) (numbers sizes : List ℕ) (first : take 1 sizes ≡ n ∷ []) where
  pub one_stands : 1 ≤ n → n ≤ opened_room → length work ≡ 3 * opened_room → length numbers ≡ opened_room → length sizes ≡ most_points
      → Stands n 1 work numbers sizes
  one_stands some few wide long room =
      record {
        floats = wide;
        buoys_room = long;
        counts-room = room;
        some = ap all_some first ∙ some_cons n [] some refl;
        pieces = omega arith;
        points = omega (arith, ap sum first);
        limit = omega (arith, ap sum first);
      }

  pub one_piece : (xs : List Vertex) → take n (numbered (points work) numbers) ≡ xs → standing 1 work numbers sizes ≡ xs ∷ []
  unfolding standing in_pieces
  one_piece xs copied = ap (λ (cs : List ℕ). in_pieces cs (numbered (points work) numbers)) first ∙ ap (λ (ys : List Vertex). ys ∷ []) copied

-- ---- what the call answers

module _ (v : List Float) (buoys : List ℕ) (closed : Bool) (extra : List Float) (extra_buoys : List ℕ) (old : List Float) (old_buoys old_counts : List ℕ) where
  abbrev answer : Answer (Option (List (StringOf Vertex)))
  answer = cut_at_marks v buoys closed extra extra_buoys (length old) (length old_buoys) (length old_counts)

  pub string_refused : (e : Refusal) → refusal_number e ≡ string_check v buoys
      → Handed answer old old_buoys old_counts (refused (refusal_number e)) old old_buoys old_counts
  unfolding cut_at_marks cut_checked
  string_refused e h = handed_by old old_buoys old_counts (refused (refusal_number e)) answer (stopped e (string_check v buoys) _ h)

  module _ (first : 0 ≡ string_check v buoys) where
    pub marks_refused : (e : Refusal) → refusal_number e ≡ points_check extra extra_buoys
        → Handed answer old old_buoys old_counts (refused (refusal_number e)) old old_buoys old_counts
    unfolding cut_at_marks cut_checked
    marks_refused e h =
        handed_by old old_buoys old_counts (refused (refusal_number e)) answer
        (stopped e (points_check extra extra_buoys) _ h ∙ went_on (string_check v buoys) _ first)

    module _ (second : 0 ≡ points_check extra extra_buoys) (ps : List (List Vertex)) (one : ps ≡ opened (numbered (points v) buoys) closed ∷ []) where
      abbrev into : List (List Vertex) → Answer (Option (List (StringOf Vertex)))
      into xss = cut_into (length old) (length old_buoys) (length old_counts) (unless_uncut (map (open_string place_of) xss))

      after_checks : (a : Answer (List (List Vertex))) → a ≡ for_each (cut_at_mark place_of) (numbered (points extra) extra_buoys) ps
          → and_then a into ≡ answer
      unfolding cut_at_marks cut_checked cut_at_each
      after_checks a cuts =
          ap (λ (b : Answer (List (List Vertex))). and_then b into) (cuts ∙ ap (for_each (cut_at_mark place_of) (numbered (points extra) extra_buoys)) one)
          ∙ went_on (points_check extra extra_buoys) _ second
          ∙ went_on (string_check v buoys) _ first

      module _ (s : Opened) where
        pub cut_refused : (e : Refusal) → still_standing (Err e) s ≡ for_each (cut_at_mark place_of) (numbered (points extra) extra_buoys) ps
            → Handed answer old old_buoys old_counts (refused (refusal_number e)) old old_buoys old_counts
        cut_refused e cuts = handed_by old old_buoys old_counts (refused (refusal_number e)) answer (after_checks (still_standing (Err e) s) cuts)

        -- the pieces that were handed over are those of the cut
        pub cut_handed : (r : Answer (Option ℕ)) (out : List Float) (out_buoys counts : List ℕ)
            → still_standing (Ok tt) s ≡ for_each (cut_at_mark place_of) (numbered (points extra) extra_buoys) ps
            → Handed (handed_over s (length old) (length old_buoys) (length old_counts)) old old_buoys old_counts r out out_buoys counts
            → Handed answer old old_buoys old_counts r out out_buoys counts
        cut_handed r out out_buoys counts cuts done =
            handed_same old old_buoys old_counts _ answer r out out_buoys counts (after_checks (still_standing (Ok tt) s) cuts) done
