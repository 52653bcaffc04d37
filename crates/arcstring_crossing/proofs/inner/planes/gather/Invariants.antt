-- The positions of the flags that are set, one after the other. The loop's invariant: those written, with those still to be found, are all. Assumes nothing.
use mathlib.Core.Path.{◌≡◌}
use mathlib.Core.List.{◌++◌}
use Prim.Native.Nat.{ℕ, ◌+◌, ◌-◌, ◌≤◌, ◌<◌}
use lib.ListN.{length, get_or, take}
use Rattle.arcstring_crossing.specs.Plane.{flagged_from}
use Rattle.arcstring_crossing.proofs.inner.planes.gather.Given as goal

abbrev pub invariant-loop-k : goal.invariant-loop-k
invariant-loop-k g l =
    record {
      few : l.n + l.from ≤ l.k;
      fits : l.n ≤ l.to - l.from;
      as_long : length l.found ≡ g.row.N;
      all : take l.n l.found ++ flagged_from l.flags l.k (l.to - l.k) ≡ flagged_from l.flags l.from (l.to - l.from);
      each : (j : ℕ) → j < l.n → get_or l.found j 0 < l.to;
    }
