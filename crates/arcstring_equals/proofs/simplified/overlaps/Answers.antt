-- `overlaps` refuses as the four lists' checks do, and else goes by the simplified copies, by each string within the other and by the legs. Assumes nothing.
use mathlib.Core.Path.{◌∙◌}
use mathlib.Core.Bool.{true, false}
use Rattle.arcstring_check.proofs.Answers.{left}
use Rattle.arcstring_against.proofs.Against.{first_string_refused, second_string_refused, both_strings_accepted}
use Rattle.arcstring_equals.specs.Simplified.{overlaps_string, overlaps}
use Rattle.arcstring_equals.proofs.Equals.{copies_refused, copies_told}
use Rattle.arcstring_equals.proofs.simplified.overlaps.Goals as goal

pub returns-in_err-a : goal.returns-in_err-a
unfolding overlaps
returns-in_err-a c = first_string_refused _ _ _ _ c.from_residual.result _ _ c.from_residual.ensures.1 c.in_err-a.ensures

pub returns-in_err-b : goal.returns-in_err-b
unfolding overlaps
returns-in_err-b c =
    second_string_refused _ _ _ _ c.in_ok-a.a c.in_ok-a.ensures c.from_residual-in_err-b.result _ _ c.from_residual-in_err-b.ensures.1 c.in_err-b.ensures

pub returns-in_err-same : goal.returns-in_err-same
unfolding overlaps
returns-in_err-same c =
    left _ _ c.from_residual-in_err-same.ensures.1 ∙ copies_refused _ _ _ c.in_err-same.ensures
    ∙ both_strings_accepted _ _ _ _ c.in_ok-a.a c.in_ok-a.ensures c.in_ok-b.b overlaps_string c.in_ok-b.ensures

pub returns-then-same : goal.returns-then-same
unfolding overlaps
returns-then-same c =
    c.overlaps_apart.ensures ∙ copies_told _ _ _ true c.in_ok-same.ensures c.if-same.true
    ∙ both_strings_accepted _ _ _ _ c.in_ok-a.a c.in_ok-a.ensures c.in_ok-b.b overlaps_string c.in_ok-b.ensures

pub returns-else-same : goal.returns-else-same
unfolding overlaps
returns-else-same c =
    copies_told _ _ _ false c.in_ok-same.ensures c.if-same.false
    ∙ both_strings_accepted _ _ _ _ c.in_ok-a.a c.in_ok-a.ensures c.in_ok-b.b overlaps_string c.in_ok-b.ensures
