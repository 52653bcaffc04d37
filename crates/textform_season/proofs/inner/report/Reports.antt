-- What is printed when the input has ended, as the code takes it apart. Assumes nothing.
use Rattle.std.specs.Prelude.{Result, Ok, Err}
use mathlib.Core.Path.{◌≡◌, refl, sym, ap, ◌∙◌}
use mathlib.Core.Bool.{Bool, true, false, ◌&&◌}
use mathlib.Core.List.{List}
use Prim.Native.Nat.{ℕ, ◌≤◌}
use native.Mathlib.Omega.{arith}
use lib.Dec.{eqb}
use lib.Ieee.{Float}
use borrow.Author.Tests.{eq-eqb, ne_eqb}
use Rattle.arcstring_check.specs.declared.check.Refusal.{Refusal}
use Rattle.arcstring_check.specs.Answer.{Answer, refused, unless_refused, pick, refusal_number}
use Rattle.arcstring_check.specs.Check.{build_check}
use Rattle.arcstring_check.proofs.Answers.{refuse, pass}
use Rattle.textform.specs.Text.{row_start}
use Rattle.textform.specs.Text as Text
use Rattle.textform.specs.Print.{refusal_text}
use Rattle.textform_report.specs.Report.{Report}
use Rattle.textform_season.specs.Season.{Season, well_formed, is_empty, all_done}
use Rattle.textform_season.specs.Output.{output}
use Rattle.textform_season.specs.Kept.{TracksSound, end_track, kept_start, kept_fed, kept_answer, printed_report}
use Rattle.textform_season.proofs.KeptSeasons.{kept_output}
use Rattle.textform_season.specs.declared.inner.track.Lines.{Lines}

-- what is enough for some tracks is enough for more
pub more_tracks : (t : Result Lines Refusal) (k m : ℕ) → k ≤ m → TracksSound t k → TracksSound t m
more_tracks (Err n) k m h s = tt
more_tracks (Ok l) k m h s = let room = s.room in let pairs = s.pairs in record { room = omega arith; pairs = omega arith }

-- ---- the limit

module _ (text : List ℕ) (limit : List Float) (tracks : Answer Report) where
  pub limit_refused : (e : Refusal) → build_check limit ≡ refusal_number e → text ≡ refusal_text (refusal_number e)
      → text ≡ printed_report (unless_refused (build_check limit) tracks)
  limit_refused e check h = h ∙ ap printed_report (refuse e (build_check limit) tracks check)

  pub limit_accepted : (x : Answer Report) → x ≡ tracks → build_check limit ≡ 0 → text ≡ printed_report x
      → text ≡ printed_report (unless_refused (build_check limit) tracks)
  limit_accepted x is check h = h ∙ ap printed_report is ∙ sym (ap printed_report (pass (build_check limit) tracks check))

-- ---- where the reading stands

module _ (s : Season (Answer Report)) (text : List ℕ) where
  abbrev counted : Answer Report
  counted = unless_refused (build_check s.text.a) (all_done end_track s)

  by_tests_lem : {t u : Bool} → eqb s.text.place row_start ≡ t → is_empty s.column ≡ u
      → printed_report (pick (t && u) counted (refused 8)) ≡ printed_report (kept_answer s)
  unfolding kept_answer well_formed Text.well_formed
  by_tests_lem e f = sym (λ i. printed_report (pick (e i && f i) counted (refused 8)))

  pub within_row : (s.text.place ≡ row_start → ⊥) → text ≡ refusal_text 8 → text ≡ printed_report (kept_answer s)
  within_row h e = e ∙ by_tests_lem (ne_eqb s.text.place row_start h) refl

  module _ (start : s.text.place ≡ row_start) where
    pub within_column : is_empty s.column ≡ false → text ≡ refusal_text 8 → text ≡ printed_report (kept_answer s)
    within_column h e = e ∙ by_tests_lem (eq-eqb s.text.place row_start start) h

    pub at_row_start : is_empty s.column ≡ true → text ≡ printed_report counted → text ≡ printed_report (kept_answer s)
    at_row_start h e = e ∙ by_tests_lem (eq-eqb s.text.place row_start start) h

-- ---- the whole input

pub whole_output : (bytes text : List ℕ) (s held : Season (Answer Report)) → s ≡ kept_start → held ≡ kept_fed s bytes → text ≡ printed_report (kept_answer held)
    → text ≡ output bytes
whole_output bytes text s held h e t =
    t ∙ ap (λ (x : Season (Answer Report)). printed_report (kept_answer x)) (e ∙ ap (λ (x : Season (Answer Report)). kept_fed x bytes) h) ∙ kept_output bytes
