-- The buffers hold a point and a mark of every pair of a string with itself, where half of (n - 2) * (n - 3) fits them. Assumes nothing.
use Prim.Native.Nat.{◌-◌, ◌*◌, ◌/◌, ◌≤◌}
use native.Mathlib.Nat.{le_trans, sub-le}
use native.Mathlib.Omega.{arith}
use borrow.Author.Tests.{leb-true}
use lib.ListN.{length}
use Rattle.arcstring_visit.specs.Visit.{most_pairs}
use Rattle.arcstring_check.proofs.Checks.{stored_whole}
use Rattle.arcstring_listing.proofs.Bounds.{pairs_fit, points-held}
use Rattle.arcstring_self.proofs.SelfBounds.{half-points_fit, half-held}
use Rattle.arcstring_visit.proofs.Rows.{product_small}
use Rattle.arcstring_self.proofs.SelfVisits.{kept_self, kept_few}
use Rattle.arcstring_self.proofs.with_self.holds_self.Goals as goal

pub returns-then-n-lt4 : goal.returns-then-n-lt4
returns-then-n-lt4 c = λ e margin. let z = kept_few margin c.args.s.v.now c.if-n-lt4.true in (omega (arith, z), omega (arith, z))

pub overflow_mul-pairs : goal.overflow_mul-pairs
overflow_mul-pairs c =
    let small : (length c.args.s.v.now / 3 - 2) * (length c.args.s.v.now / 3 - 3) ≤ most_pairs = let w = stored_whole _ c.args.s.accepted in
    product_small _ _ (le_trans (sub-le _ _) w.at_most) (le_trans (sub-le _ _) w.at_most) in
    pairs_fit _ small

pub overflow_mul-pairs-2 : goal.overflow_mul-pairs-2
overflow_mul-pairs-2 c =
    let small : (length c.args.s.v.now / 3 - 2) * (length c.args.s.v.now / 3 - 3) ≤ most_pairs = let w = stored_whole _ c.args.s.accepted in
    product_small _ _ (le_trans (sub-le _ _) w.at_most) (le_trans (sub-le _ _) w.at_most) in
    half-points_fit _ small

pub returns-then-pairs-points : goal.returns-then-pairs-points
returns-then-pairs-points c =
    λ e margin. let k = half-held _ _ (kept_self margin c.args.s.v.now) in
    (points-held _ _ _ k c.if-pairs-points.true, le_trans k (leb-true _ _ e))
