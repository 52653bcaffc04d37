-- The walk over a near list, by position. Assumes nothing.
use mathlib.Core.Bool.{true, false}
use Rattle.std.proofs.Common.{rules}
use borrow.Author.Tests.{tests}
use Rattle.std.proofs.lemmas.Iterator.{first_from_Range}
use Rattle.arcstring_along.proofs.NearEntries.{EntryTold, near_by_position}
use Rattle.arcstring_along.proofs.inner.along.first_near.Goals as goal

pub returns : goal.returns
returns c =
    near_by_position _ c.args.near _
    (first_from_Range _ _ _ _ (EntryTold c.args.p c.args.near true) (EntryTold c.args.p c.args.near false) c.find.ensures.ran (λ x q k. search (rules, tests))
    (λ x q k. search (rules, tests)))
