-- `==` refuses as the four lists' checks do, and else compares the strings. Assumes nothing.
use mathlib.Core.Path.{ap, ◌∙◌}
use Rattle.arcstring.specs.Points.{ArcString}
use Rattle.arcstring_check.specs.Answer.{answered}
use Rattle.arcstring_against.specs.Against.{equal_strings}
use Rattle.arcstring_relation.specs.Relation.{equal}
use Rattle.arcstring_against.proofs.Against.{first_string_refused, second_string_refused, both_strings_accepted}
use Rattle.arcstring_relation.proofs.relation.eq.Goals as goal

pub returns-in_err-a : goal.returns-in_err-a
unfolding equal
returns-in_err-a c = first_string_refused _ _ _ _ c.from_residual.result _ _ c.from_residual.ensures.1 c.in_err-a.ensures

pub returns-in_err-b : goal.returns-in_err-b
unfolding equal
returns-in_err-b c =
    second_string_refused _ _ _ _ c.in_ok-a.a c.in_ok-a.ensures c.from_residual-in_err-b.result _ _ c.from_residual-in_err-b.ensures.1 c.in_err-b.ensures

pub returns : goal.returns
unfolding equal
returns c =
    ap answered c.equal_strings.ensures
    ∙ both_strings_accepted _ _ _ _ c.in_ok-a.a c.in_ok-a.ensures c.in_ok-b.b (λ (s t : ArcString). answered (equal_strings s t)) c.in_ok-b.ensures
