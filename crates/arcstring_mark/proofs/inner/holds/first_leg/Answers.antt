-- The walk over the legs, by position. Assumes nothing.
use mathlib.Core.Bool.{true, false}
use Rattle.std.proofs.Common.{rules}
use borrow.Author.Tests.{tests}
use Rattle.std.proofs.lemmas.Iterator.{first_from_Range}
use Rattle.arcstring_mark.proofs.HoldingLegs.{LegTold, holds_by_position}
use Rattle.arcstring_mark.proofs.inner.holds.first_leg.Goals as goal

pub returns : goal.returns
returns c =
    holds_by_position _ c.args.string _ c.requires _
    (first_from_Range _ _ _ _ (LegTold c.args.p c.args.string true) (LegTold c.args.p c.args.string false) c.find.ensures.ran (λ x q k. search (rules, tests))
    (λ x q k. search (rules, tests)))
