-- The pairs of an accepted string with itself are counted. Assumes nothing.
use mathlib.Core.Path.{refl}
use native.Mathlib.Nat.{le_trans}
use Rattle.arcstring_visit.proofs.Rows.{within_few}
use Rattle.arcstring_visit.proofs.Walks.{tallied}
use Rattle.arcstring_self.proofs.SelfVisits.{self_visits}
use Rattle.arcstring_self.proofs.with_self.tally_self.Goals as goal

pub returns : goal.returns
returns c =
    let a = c.legs.result in
    tallied _ _ _ _ (self_visits _ _ _ _ c.legs.ensures) refl c.count_within.ensures (within_few _ _ _ (le_trans a.within.0 a.within.1))
