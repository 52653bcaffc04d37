-- `crosses` refuses as the four lists' checks do, and else answers whether the strings cross. Assumes nothing.
use mathlib.Core.Path.{ap, ◌∙◌}
use Rattle.arcstring.specs.Points.{ArcString}
use Rattle.arcstring_check.specs.Answer.{answered}
use Rattle.arcstring_relation.specs.Relation.{crosses_string, crosses}
use Rattle.arcstring_against.proofs.Against.{first_string_refused, second_string_refused, both_strings_accepted}
use Rattle.arcstring_relation.proofs.relation.crosses.Goals as goal

pub returns-in_err-a : goal.returns-in_err-a
unfolding crosses
returns-in_err-a c = first_string_refused _ _ _ _ c.from_residual.result _ _ c.from_residual.ensures.1 c.in_err-a.ensures

pub returns-in_err-b : goal.returns-in_err-b
unfolding crosses
returns-in_err-b c =
    second_string_refused _ _ _ _ c.in_ok-a.a c.in_ok-a.ensures c.from_residual-in_err-b.result _ _ c.from_residual-in_err-b.ensures.1 c.in_err-b.ensures

pub returns : goal.returns
unfolding crosses
returns c =
    ap answered c.crosses_string.ensures
    ∙ both_strings_accepted _ _ _ _ c.in_ok-a.a c.in_ok-a.ensures c.in_ok-b.b (λ (s t : ArcString). answered (crosses_string s t)) c.in_ok-b.ensures
