-- The pairs of two accepted strings are counted. Assumes nothing.
use mathlib.Core.Path.{refl}
use native.Mathlib.Nat.{le_trans}
use Rattle.arcstring_visit.proofs.Rows.{between_few}
use Rattle.arcstring_visit.proofs.Walks.{tallied}
use Rattle.arcstring_listing.proofs.Visits.{two_visits}
use Rattle.arcstring_listing.proofs.inner.tally_two.Goals as goal

pub returns : goal.returns
returns c =
    let a = c.legs.result in
    let b = c.legs-2.result in
    tallied _ _ _ _ (two_visits _ _ _ _ _ _ _ c.legs.ensures c.legs-2.ensures) refl c.count_between.ensures
    (between_few _ _ _ _ _ (le_trans a.within.0 a.within.1) (le_trans b.within.0 b.within.1))
