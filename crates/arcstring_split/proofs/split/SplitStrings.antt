-- Laws of a split from its checks on: what they tell where they accept, and what the call answers. Assumes nothing.
use mathlib.Core.Path.{◌≡◌, sym, ap, ◌∙◌}
use mathlib.Core.Bool.{Bool}
use mathlib.Core.List.{List, [], ◌∷◌}
use mathlib.Core.Option.{Option}
use Prim.Native.Nat.{ℕ, ◌*◌, ◌≤◌}
use native.Mathlib.Omega.{arith}
use lib.Ieee.{Float}
use lib.ListN.{length}
use Rattle.sphericalpoint.specs.declared.SphericalPoint.{SphericalPoint}
use Rattle.arcstring_check.specs.declared.check.Refusal.{Refusal}
use Rattle.arcstring.specs.declared.inner.vertex.Vertex.{Vertex}
use Rattle.arcstring_check.specs.Answer.{Answer, refused, answered, and_then, refusal_number}
use Rattle.arcstring.specs.Points.{StringOf, numbered, place_of, points}
use Rattle.arcstring_check.specs.Check.{string_check, points_check, most_points}
use Rattle.arcstring_check.proofs.Answers.{stopped, went_on}
use Rattle.arcstring_check.proofs.Checks.{stored_whole, stored_some, string-stored, as_many_buoys, points_whole, points_buoys}
use Rattle.arcstring.proofs.WithoutBuoys.{lent_places}
use Rattle.arcstring_build.specs.Build.{built_numbered}
use Rattle.arcstring_insert.specs.Steps.{for_each}
use Rattle.arcstring_split_leg.specs.SplitLeg.{unless_uncut}
use Rattle.arcstring_piece.specs.declared.inner.pieces.Pieces.{Pieces}
use Rattle.arcstring_piece.specs.Cut.{cut_string, cut_all}
use Rattle.arcstring_piece.specs.Pieces.{piece}
use Rattle.arcstring_piece.specs.Standing.{standing}
use Rattle.arcstring_split.specs.Split.{pieces_into, numbered_copy, split_into, split_string}
use Rattle.arcstring_split.specs.Handed.{handed_over}
use Rattle.arcstring_split.proofs.split.SplitAnswers.{Splits, splits_by, splits_same}

-- ---- accepted lists: as many numbers as vertices, of a string some of them and not too many

pub string_numbers : (v : List Float) (buoys : List ℕ) → 0 ≡ string_check v buoys →
    (length v ≡ 3 * length buoys) × (1 ≤ length buoys) × (length buoys ≤ most_points)
string_numbers v buoys h =
    let stored = string-stored v buoys (sym h) in
    let whole = stored_whole v stored in
    let many = as_many_buoys v buoys (sym h) in
    (omega (arith, whole.triples), omega (arith, stored_some v stored), omega (arith, whole.at_most))

pub points_numbers : (extra : List Float) (extra_buoys : List ℕ) → 0 ≡ points_check extra extra_buoys → length extra ≡ 3 * length extra_buoys
points_numbers extra extra_buoys h = omega (arith, (points_whole extra extra_buoys (sym h)).triples, points_buoys extra extra_buoys (sym h))

-- ---- what the call answers

module _ (v : List Float) (buoys : List ℕ) (closed : Bool) (extra : List Float) (extra_buoys : List ℕ) (old : List Float)
    (old_buoys old_counts old_flags : List ℕ) where
  abbrev answer : Answer (Option (List (StringOf Vertex)))
  answer = split_string v buoys closed extra extra_buoys (length old) (length old_buoys) (length old_counts) (length old_flags)

  -- where e is the answer, all four buffers are as they came
  refused_by : (e : Refusal) → refused (refusal_number e) ≡ answer →
      Splits answer old old_buoys old_counts old_flags (refused (refusal_number e)) old old_buoys old_counts old_flags
  refused_by e same = splits_by old old_buoys old_counts old_flags (refused (refusal_number e)) answer same

  pub string_refused : (e : Refusal) → refusal_number e ≡ string_check v buoys →
      Splits answer old old_buoys old_counts old_flags (refused (refusal_number e)) old old_buoys old_counts old_flags
  unfolding split_string split_into
  string_refused e h = refused_by e (stopped e (string_check v buoys) _ h)

  module _ (first : 0 ≡ string_check v buoys) where
    pub points_refused : (e : Refusal) → refusal_number e ≡ points_check extra extra_buoys →
        Splits answer old old_buoys old_counts old_flags (refused (refusal_number e)) old old_buoys old_counts old_flags
    unfolding split_string split_into
    points_refused e h = refused_by e (stopped e (points_check extra extra_buoys) _ h ∙ went_on (string_check v buoys) _ first)

    module _ (second : 0 ≡ points_check extra extra_buoys) (ss : List (StringOf Vertex))
        (one : ss ≡ piece (numbered (points v) buoys) closed ∷ []) where
      abbrev cuts : List (StringOf Vertex) → Answer (List (StringOf Vertex))
      cuts ts = for_each (cut_string place_of built_numbered) (numbered (points extra) extra_buoys) ts

      abbrev into : List (StringOf Vertex) → Answer (Option (List (StringOf Vertex)))
      into ts = pieces_into (length old) (length old_buoys) (length old_counts) (length old_flags) (unless_uncut ts)

      -- the string's copy is the one piece: its near list is its vertices
      passed : and_then (cuts ss) into ≡ answer
      unfolding split_string split_into cut_all
      passed =
          let copy : ss ≡ numbered_copy v buoys closed ∷ [] =
          one
          ∙ ap (λ (ps : List SphericalPoint). record { vertices = numbered (points v) buoys; near = ps; closed = closed } ∷ [])
          (lent_places v buoys (sym first)) in
          ap (λ (ts : List (StringOf Vertex)). and_then (cuts ts) into) copy
          ∙ went_on (points_check extra extra_buoys) _ second
          ∙ went_on (string_check v buoys) _ first

      pub cuts_refused : (e : Refusal) → refused (refusal_number e) ≡ cuts ss →
          Splits answer old old_buoys old_counts old_flags (refused (refusal_number e)) old old_buoys old_counts old_flags
      cuts_refused e h = refused_by e (ap (λ (a : Answer (List (StringOf Vertex))). and_then a into) h ∙ passed)

      -- the pieces that were handed over are those of the split
      pub split_handed : (p : Pieces) (r : Answer (Option ℕ)) (out : List Float) (out_buoys counts flags : List ℕ) → answered (standing p) ≡ cuts ss →
          Splits (handed_over p (length old) (length old_buoys) (length old_counts) (length old_flags))
          old old_buoys old_counts old_flags r out out_buoys counts flags →
          Splits answer old old_buoys old_counts old_flags r out out_buoys counts flags
      split_handed p r out out_buoys counts flags h done =
          splits_same old old_buoys old_counts old_flags _ answer r out out_buoys counts flags
          (ap (λ (a : Answer (List (StringOf Vertex))). and_then a into) h ∙ passed) done
