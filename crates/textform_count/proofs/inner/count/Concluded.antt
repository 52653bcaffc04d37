-- What is printed once the input has ended, by where the reading stands and what the two strings give. Assumes nothing.
use mathlib.Core.Path.{◌≡◌, sym, ap, ◌∙◌}
use mathlib.Core.Bool.{Bool}
use mathlib.Core.List.{List}
use Prim.Native.Nat.{ℕ}
use lib.Dec.{eqb}
use borrow.Author.Tests.{eq-eqb, ne_eqb}
use Rattle.arcstring_check.specs.Answer.{Answer, refused, pick}
use Rattle.textform.specs.Text.{row_start, State, well_formed}
use Rattle.textform.specs.Print.{refusal_text}
use Rattle.textform_count.specs.Print.{printed}
use Rattle.textform_count.specs.Count.{count_built, count_state}
use Rattle.arcstring_tally.specs.declared.counts.Counts.{Counts}

module _ (s : State) (text : List ℕ) where
  by_test : {t : Bool} → eqb s.place row_start ≡ t → printed (pick t (count_built s.a s.b) (refused 8)) ≡ printed (count_state s)
  unfolding count_state well_formed
  by_test e = sym (ap (λ (t : Bool). printed (pick t (count_built s.a s.b) (refused 8))) e)

  pub malformed-printed : (s.place ≡ row_start → ⊥) → text ≡ refusal_text 8 → text ≡ printed (count_state s)
  malformed-printed h e = e ∙ by_test (ne_eqb s.place row_start h)

  -- what is printed for this answer
  pub conclusion_printed : (answer : Answer Counts) → s.place ≡ row_start → answer ≡ count_built s.a s.b → text ≡ printed answer
      → text ≡ printed (count_state s)
  conclusion_printed answer ended told e = e ∙ ap printed told ∙ by_test (eq-eqb s.place row_start ended)
