-- The walk over the legs, by position. Assumes nothing.
use mathlib.Core.Path.{refl}
use mathlib.Core.Bool.{true, false}
use native.Mathlib.Omega.{arith}
use Rattle.std.proofs.Common.{rules}
use borrow.Author.Tests.{tests}
use Rattle.std.proofs.lemmas.Iterator.{YieldsList-from_range, cases_from_any}
use Rattle.arcstring_along.proofs.ByPosition.{any_in_range}
use Rattle.arcstring_along.proofs.AlongLegs.{LegTold, along_by_position}
use Rattle.arcstring_along.proofs.inner.along.along_some_leg.Goals as goal

pub returns : goal.returns
returns c =
    along_by_position _ c.args.string _ c.requires _
    (any_in_range _ _ _ _
    (cases_from_any _ _ _ (LegTold c.args.p c.args.string true) (LegTold c.args.p c.args.string false) c.any.ensures.ran
    (YieldsList-from_range 0 c.args.l c.args.l refl (omega arith)) (λ x q k. search (rules, tests)) (λ x q k. search (rules, tests))))
