-- `keep` copies the first position and those that the walk keeps: what stands in `next` and what the walk still keeps is the whole. Assumes nothing.
use mathlib.Core.Path.{◌≡◌}
use mathlib.Core.List.{◌++◌, map}
use Prim.Native.Nat.{◌≤◌, ◌+◌}
use lib.ListN.{length, take, drop}
use Rattle.arcstring.specs.Points.{point_at}
use Rattle.arcstring_rounds.specs.Kept.{kept_from, kept_vertices}
use Rattle.arcstring_rounds.proofs.inner.Chosen.keep.Given as goal

abbrev pub invariant-loop-k : goal.invariant-loop-k
invariant-loop-k l =
    let ps = map (point_at l.self.v.now) l.self.at.now in
    (1 ≤ l.kept) × (l.kept ≤ l.k) × (l.k + l.skip ≤ length l.self.at.now)
    × (take l.kept l.next ++ kept_from ps l.k (drop (l.k + l.skip) l.self.at.now) ≡ kept_vertices ps l.self.at.now l.skip)
