-- `overlap_legs` seeks a leg with both ends along the other string: what the legs from vertex k - 1 on answer is the whole answer. Assumes nothing.
use mathlib.Core.Path.{◌≡◌}
use Prim.Native.Nat.{◌-◌}
use lib.ListN.{drop}
use Rattle.arcstring.specs.Points.{points}
use Rattle.arcstring_along.specs.OnString.{string_of}
use Rattle.arcstring_equals.specs.Simplified.{overlap_legs}
use Rattle.arcstring_equals.proofs.simplified.overlap_legs.Given as goal

abbrev pub invariant-loop-k : goal.invariant-loop-k
invariant-loop-k l =
    overlap_legs (string_of l.b) l.a.closed (drop (l.k - 1) (points l.string.v.now)) ≡ overlap_legs (string_of l.b) l.a.closed (points l.string.v.now)
