-- `point_is_along_arcstring` refuses as its checks do, and else answers whether the point is along the string. Assumes nothing.
use mathlib.Core.Path.{ap, ◌∙◌}
use mathlib.Core.Bool.{Bool}
use Rattle.sphericalpoint.specs.declared.SphericalPoint.{SphericalPoint}
use Rattle.arcstring.specs.Points.{ArcString}
use Rattle.arcstring_check.specs.Answer.{Answer, answered, unless_refused}
use Rattle.arcstring_check.specs.Check.{point_check}
use Rattle.arcstring_check.proofs.Answers.{left, stopped, went_on}
use Rattle.arcstring_along.specs.OnString.{along_string, along}
use Rattle.arcstring_along.proofs.Accepted.{string_refused, string_accepted}
use Rattle.arcstring_along.proofs.on_string.point_is_along_arcstring.Goals as goal

-- what follows the string's checks
abbrev of_point : SphericalPoint → ArcString → Answer Bool
of_point p s = unless_refused (point_check p) (answered (along_string p s))

pub returns-in_err-string : goal.returns-in_err-string
unfolding along
returns-in_err-string c = string_refused c.from_residual.result _ _ _ _ c.from_residual.ensures.1 c.in_err-string.ensures

pub returns-in_err-check_point : goal.returns-in_err-check_point
unfolding along
returns-in_err-check_point c =
    left _ _ c.from_residual-in_err-check_point.ensures.1 ∙ stopped _ _ _ c.in_err-check_point.ensures
    ∙ string_accepted c.in_ok-string.string (of_point c.args.p) c.in_ok-string.ensures

pub returns : goal.returns
unfolding along
returns c =
    ap answered c.along_string.ensures ∙ went_on _ _ c.in_ok-check_point.ensures
    ∙ string_accepted c.in_ok-string.string (of_point c.args.p) c.in_ok-string.ensures
