-- A string cut at marks: what the opened string holds, what the pieces are, what one mark does, and that a mark which no leg holds does nothing. Assumes
-- nothing.
use mathlib.Core.Path.{◌≡◌, refl, ap, ap₂, ◌∙◌}
use mathlib.Core.Bool.{Bool, true, false}
use mathlib.Core.List.{List, [], ◌∷◌, ◌++◌, append-nil, map-id}
use mathlib.Core.Option.{Option, none, some, map}
use Prim.Native.Nat.{ℕ}
use Rattle.sphericalpoint.specs.declared.SphericalPoint.{SphericalPoint}
use Rattle.arcstring_check.specs.Answer.{answered, pick}
use Rattle.arcstring.specs.Leg.{Leg, chain, legs}
use Rattle.arcstring_along.specs.OnString.{is_some}
use Rattle.arcstring_mark.specs.Mark.{first_holding, mark_on_string}
use Rattle.arcstring_mark_cut.specs.CutAtMarks.{opened, part_before, part_after, leg_holding, at_piece_end, cut_piece, cut_first}
use Rattle.arcstring_mark_cut.specs.CutAtMarks.{checked_cut, cut_at_mark, cut_at_each}
use Rattle.arcstring_mark_cut.specs.CutLaws.{OpenedLegs, OpenedHolds, NoneHolds, CutPieces, OneMarkCuts, PassedOver}
use Rattle.arcstring_mark_cut.proofs.InTurn.{each_without}
use Rattle.arcstring_mark_cut.proofs.Stages.{last_stage, count_each}

-- ---- the opened string

pub opened-legs : OpenedLegs
unfolding opened legs
opened-legs [] false = refl
opened-legs [] true = refl
opened-legs (u ∷ vs) false = ap (chain u) (append-nil vs)
opened-legs (u ∷ vs) true = refl

pub opened_holds : OpenedHolds
unfolding leg_holding mark_on_string
opened_holds p ps closed =
    ap (λ (qs : List SphericalPoint). is_some (first_holding p (legs qs false))) (map-id (opened ps closed))
    ∙ ap (λ (ls : List Leg). is_some (first_holding p ls)) (opened-legs ps closed)

-- ---- what the pieces are

pub cut_pieces : CutPieces
unfolding cut_at_each
cut_pieces A pt marks xs xss h =
    let s = last_stage marks xs pt xss h in
    record { long = s.long; linked = s.linked; whole = s.whole; count = count_each pt marks (xs ∷ []) xss h }

-- ---- what one mark does

module _ {A : Type 0} (pt : A → SphericalPoint) (x : A) where
  -- pieces that do not hold it stay, and what it makes of those after them stands behind them
  behind : (before rest : List (List A)) (o : Option (List (List A))) → NoneHolds pt x before → cut_first pt x rest ≡ o
      → cut_first pt x (before ++ rest) ≡ map (λ (yss : List (List A)). before ++ yss) o
  unfolding cut_first
  behind [] rest none h e = e
  behind [] rest (some yss) h e = e
  behind (xs ∷ before) rest none h e = ap₂ (cut_piece pt x xs (before ++ rest)) h.0 (behind before rest none h.1 e)
  behind (xs ∷ before) rest (some yss) h e = ap₂ (cut_piece pt x xs (before ++ rest)) h.0 (behind before rest (some yss) h.1 e)

  at_piece : (xs : List A) (after : List (List A)) (i : ℕ) (b : Bool) → leg_holding pt x xs ≡ some i → at_piece_end pt x xs ≡ b
      → cut_first pt x (xs ∷ after) ≡ pick b none (some (part_before x i xs ∷ part_after x i xs ∷ after))
  unfolding cut_first
  at_piece xs after i b h e =
      ap (λ (o : Option ℕ). cut_piece pt x xs after o (cut_first pt x after)) h
      ∙ ap (λ (t : Bool). pick t none (some (part_before x i xs ∷ part_after x i xs ∷ after))) e

  none_cut : (xss : List (List A)) → NoneHolds pt x xss → cut_first pt x xss ≡ none
  unfolding cut_first
  none_cut [] h = refl
  none_cut (xs ∷ xss) h = ap₂ (cut_piece pt x xs xss) h.0 (none_cut xss h.1)

  stays : (xss : List (List A)) → cut_first pt x xss ≡ none → cut_at_mark pt x xss ≡ answered xss
  unfolding cut_at_mark
  stays xss h = ap (checked_cut pt xss) h

pub one_mark_cuts : OneMarkCuts
one_mark_cuts A pt x = record {
  passed_over = none_cut pt x;
  at-end = λ before xs after i h e b. behind pt x before (xs ∷ after) none h (at_piece pt x xs after i true e b);
  inside = λ before xs after i h e b. behind pt x before (xs ∷ after) (some _) h (at_piece pt x xs after i false e b);
  nothing = stays pt x;
}

-- ---- marks that no leg holds

pub passed_over : PassedOver
unfolding cut_at_each
passed_over A pt before after x xs passed =
    each_without (cut_at_mark pt) before x after (xs ∷ []) (λ xss h. stays pt x xss (none_cut pt x xss (passed xss h)))
