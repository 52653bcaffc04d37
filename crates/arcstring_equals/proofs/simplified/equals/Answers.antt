-- `equals` refuses as the four lists' checks do, and else compares the strings and their simplified copies. Assumes nothing.
use mathlib.Core.Path.{◌∙◌}
use Rattle.arcstring_against.proofs.Against.{first_string_refused, second_string_refused, both_strings_accepted}
use Rattle.arcstring_equals.specs.Simplified.{equals_string, equals}
use Rattle.arcstring_equals.proofs.simplified.equals.Goals as goal

pub returns-in_err-a : goal.returns-in_err-a
unfolding equals
returns-in_err-a c = first_string_refused _ _ _ _ c.from_residual.result _ _ c.from_residual.ensures.1 c.in_err-a.ensures

pub returns-in_err-b : goal.returns-in_err-b
unfolding equals
returns-in_err-b c =
    second_string_refused _ _ _ _ c.in_ok-a.a c.in_ok-a.ensures c.from_residual-in_err-b.result _ _ c.from_residual-in_err-b.ensures.1 c.in_err-b.ensures

pub returns : goal.returns
unfolding equals
returns c = c.equals_strings.ensures ∙ both_strings_accepted _ _ _ _ c.in_ok-a.a c.in_ok-a.ensures c.in_ok-b.b equals_string c.in_ok-b.ensures
