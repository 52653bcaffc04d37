-- The buffers hold a point and a mark of every pair, where the product of the leg counts fits them. Assumes nothing.
use native.Mathlib.Nat.{le_trans}
use borrow.Author.Tests.{leb-true}
use Rattle.arcstring_listing.proofs.Bounds.{points-held}
use Rattle.arcstring_listing.proofs.Visits.{kept_two}
use Rattle.arcstring_listing.proofs.listing.holds_all.Goals as goal

pub returns-then-pairs-points : goal.returns-then-pairs-points
returns-then-pairs-points c =
    λ e margin. let k = kept_two margin _ _ _ _ _ _ _ _ c.legs.ensures c.legs-2.ensures in
    (points-held _ _ _ k c.if-pairs-points.true, le_trans k (leb-true _ _ e))
