-- `contains` refuses as its checks do, and else answers whether each vertex of the second is along the first. Assumes nothing.
use mathlib.Core.Path.{sym, ap, ◌∙◌}
use mathlib.Core.Bool.{Bool}
use mathlib.Core.List.{List}
use native.Mathlib.Omega.{arith}
use lib.Ieee.{Float}
use Rattle.arcstring.specs.Points.{ArcString, points}
use Rattle.arcstring_check.specs.Answer.{Answer, answered, unless_refused}
use Rattle.arcstring_check.specs.Check.{stored_check}
use Rattle.arcstring_check.proofs.Answers.{left, stopped, went_on}
use Rattle.arcstring_check.proofs.Checks.{stored_whole}
use Rattle.arcstring_along.proofs.Accepted.{string_refused, string_accepted}
use Rattle.arcstring_against.specs.Against.{all_along}
use Rattle.arcstring_against.proofs.Against.{vertices_along}
use Rattle.arcstring_relation.specs.Relation.{contains}
use Rattle.arcstring_relation.proofs.relation.contains.Goals as goal

-- what follows the first string's checks
abbrev of_second : List Float → ArcString → Answer Bool
of_second b s = unless_refused (stored_check b) (answered (all_along (points b) s))

pub returns-in_err-a : goal.returns-in_err-a
unfolding contains
returns-in_err-a c = string_refused c.from_residual.result _ _ _ _ c.from_residual.ensures.1 c.in_err-a.ensures

pub returns-in_err-check_stored : goal.returns-in_err-check_stored
unfolding contains
returns-in_err-check_stored c =
    left _ _ c.from_residual-in_err-check_stored.ensures.1 ∙ stopped _ _ _ c.in_err-check_stored.ensures
    ∙ string_accepted c.in_ok-a.a (of_second c.args.b.now) c.in_ok-a.ensures

-- of either string
pub of-requires : goal.of-requires
of-requires c = omega (arith, (stored_whole _ c.in_ok-a.a.accepted.0).triples, (stored_whole _ (sym c.in_ok-check_stored.ensures)).triples)

pub returns : goal.returns
unfolding contains
returns c =
    ap answered (vertices_along _ c.of.ensures.0 c.all_along.ensures) ∙ went_on _ _ c.in_ok-check_stored.ensures
    ∙ string_accepted c.in_ok-a.a (of_second c.args.b.now) c.in_ok-a.ensures
