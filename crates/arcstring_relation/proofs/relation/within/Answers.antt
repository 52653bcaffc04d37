-- `within` refuses as its checks do, and else answers whether each vertex of the first is along the second. Assumes nothing.
use mathlib.Core.Path.{sym, ap, ◌∙◌}
use native.Mathlib.Omega.{arith}
use Rattle.arcstring.specs.Points.{ArcString, points}
use Rattle.arcstring_check.specs.Answer.{answered}
use Rattle.arcstring_check.proofs.Answers.{left, stopped, went_on}
use Rattle.arcstring_check.proofs.Checks.{stored_whole}
use Rattle.arcstring_along.proofs.Accepted.{string_refused, string_accepted}
use Rattle.arcstring_against.specs.Against.{all_along}
use Rattle.arcstring_against.proofs.Against.{vertices_along}
use Rattle.arcstring_relation.specs.Relation.{within}
use Rattle.arcstring_relation.proofs.relation.within.Goals as goal

pub returns-in_err-check_stored : goal.returns-in_err-check_stored
unfolding within
returns-in_err-check_stored c = left _ _ c.from_residual.ensures.1 ∙ stopped _ _ _ c.in_err-check_stored.ensures

pub returns-in_err-b : goal.returns-in_err-b
unfolding within
returns-in_err-b c =
    string_refused c.from_residual-in_err-b.result _ _ _ _ c.from_residual-in_err-b.ensures.1 c.in_err-b.ensures ∙ went_on _ _ c.in_ok-check_stored.ensures

pub of-requires : goal.of-requires
of-requires c = omega (arith, (stored_whole _ (sym c.in_ok-check_stored.ensures)).triples)

pub returns : goal.returns
unfolding within
returns c =
    ap answered (vertices_along _ c.of.ensures.0 c.all_along.ensures)
    ∙ string_accepted c.in_ok-b.b (λ (s : ArcString). answered (all_along (points c.args.a.now) s)) c.in_ok-b.ensures
    ∙ went_on _ _ c.in_ok-check_stored.ensures
