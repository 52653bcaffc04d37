-- The pieces between one mark and the next: what every mark keeps of them, and how many there are. Assumes nothing.
use mathlib.Core.Path.{◌≡◌, refl, sym, ap, subst, ◌∙◌}
use mathlib.Core.List.{List, [], ◌∷◌, Memᴰ}
use mathlib.Core.Option.{Option, none, some}
use Prim.Native.Nat.{◌+◌, ◌≤◌}
use native.Mathlib.Omega.{arith}
use lib.ListN.{length}
use Rattle.sphericalpoint.specs.declared.SphericalPoint.{SphericalPoint}
use Rattle.arcstring_check.specs.Answer.{answered, and_then}
use Rattle.arcstring_check.specs.Check.{most_points}
use Rattle.arcstring_check.proofs.Answers.{same_answer}
use Rattle.arcstring_insert.specs.Steps.{for_each}
use Rattle.arcstring_insert.proofs.Limits.{past_limit, within_limit, under_limit}
use Rattle.arcstring_mark_cut.specs.CutAtMarks.{together, cut_first, checked_cut, cut_at_mark, cut_at_each}
use Rattle.arcstring_mark_cut.specs.CutLaws.{Long, Linked, without_cuts, cuts_made}
use Rattle.arcstring_mark_cut.proofs.OnePieceCut.{long_cut, linked_cut, without_cut, count_cut}
use Rattle.arcstring_mark_cut.proofs.FoundCut.{CutIn, found_cut}
use Rattle.arcstring_mark_cut.proofs.InTurn.{kept_by_each}

-- ---- what every mark keeps: of one piece alone, as at first, neither length nor limit is asked

pub record Stage {A : Type 0} (marks xs : List A) (xss : List (List A)) : Type 0 where
  pub long : 2 ≤ length xss → Long xss
  pub limit : 2 ≤ length xss → together xss ≤ most_points
  pub linked : Linked marks xss
  pub whole : without_cuts xss ≡ xs

module _ {A : Type 0} (marks xs : List A) where
  first_stage : Stage marks xs (xs ∷ [])
  first_stage = record { long = λ h. absurd (omega arith); limit = λ h. absurd (omega arith); linked = tt; whole = refl }

  stage_cut : (x : A) (xss cut : List (List A)) → Memᴰ x marks → CutIn x xss cut → together cut ≤ most_points → Stage marks xs xss → Stage marks xs cut
  stage_cut x xss cut mark c small s =
      let l = c.leg in
      let p = c.piece in
      record {
        long = λ h. rw c.are (long_cut x l p c.low c.before c.after (rw c.were at s).long);
        limit = λ h. small;
        linked = rw c.are (linked_cut x l p c.low marks mark c.before c.after (rw c.were at s).linked);
        whole = ap without_cuts c.are ∙ without_cut x l p c.low c.before c.after ∙ sym (ap without_cuts c.were) ∙ s.whole;
      }

  module _ (pt : A → SphericalPoint) where
    stage_mark : (x : A) → Memᴰ x marks → (xss yss : List (List A)) → cut_at_mark pt x xss ≡ answered yss → Stage marks xs xss → Stage marks xs yss
    unfolding cut_at_mark
    stage_mark x mark xss yss h s = by_cut (cut_first pt x xss) refl h
      where
        by_cut : (o : Option (List (List A))) → cut_first pt x xss ≡ o → checked_cut pt xss o ≡ answered yss → Stage marks xs yss
        by_cut none e k = subst (Stage marks xs) (same_answer xss yss k) s
        by_cut (some cut) e k =
            subst (Stage marks xs) (within_limit cut yss _ k)
            (stage_cut x xss cut mark (found_cut pt x xss cut e) (under_limit cut yss _ k) s)

    pub last_stage : (xss : List (List A)) → cut_at_each pt marks xs ≡ answered xss → Stage marks xs xss
    unfolding cut_at_each
    last_stage xss h = kept_by_each (cut_at_mark pt) (Stage marks xs) marks stage_mark (xs ∷ []) xss h first_stage

-- ---- how many pieces

module _ {A : Type 0} (pt : A → SphericalPoint) where
  count_cuts : (x : A) (xss cut : List (List A)) → cut_first pt x xss ≡ some cut → length cut ≡ length xss + 1
  count_cuts x xss cut e =
      let c = found_cut pt x xss cut e in
      ap length c.are ∙ count_cut x c.leg c.piece c.low c.before c.after ∙ sym (ap (λ (yss : List (List A)). length yss + 1) c.were)

  pub count_each : (marks : List A) (xss yss : List (List A)) → for_each (cut_at_mark pt) marks xss ≡ answered yss
      → length yss ≡ cuts_made pt marks xss + length xss
  unfolding for_each cuts_made cut_at_mark
  count_each [] xss yss h = ap length (sym (same_answer xss yss h)) ∙ omega arith
  count_each (x ∷ marks) xss yss h = by_cut (count_each marks) (cut_first pt x xss) refl h
    where
      by_cut : ((uss vss : List (List A)) → for_each (cut_at_mark pt) marks uss ≡ answered vss → length vss ≡ cuts_made pt marks uss + length uss)
          → (o : Option (List (List A))) → cut_first pt x xss ≡ o
          → and_then (checked_cut pt xss o) (for_each (cut_at_mark pt) marks) ≡ answered yss → length yss ≡ cuts_made pt (x ∷ marks) xss + length xss
      by_cut below none e k = rw e (omega (arith, below xss yss k))
      by_cut below (some cut) e k =
          rw e (omega (arith, below cut yss (past_limit cut (for_each (cut_at_mark pt) marks) yss _ k), count_cuts x xss cut e))
