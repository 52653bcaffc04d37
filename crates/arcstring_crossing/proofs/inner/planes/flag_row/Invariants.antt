-- The flags of a leg's pairs, one after the other. The loop's invariant: they are right up to k, and where none is set all pairs up to k are apart. Assumes
-- nothing.
use mathlib.Core.Path.{◌≡◌}
use Prim.Native.Nat.{◌≤◌}
use lib.ListN.{length}
use Rattle.arcstring.specs.Leg.{leg_of}
use Rattle.arcstring_crossing.specs.Plane.{AllApart, FlagsOf}
use Rattle.arcstring_crossing.proofs.inner.planes.flag_row.Given as goal

abbrev pub invariant-loop-k : goal.invariant-loop-k
invariant-loop-k g l =
    record {
      few : l.found ≤ l.k;
      as_long : length l.flags ≡ g.row.N;
      all_apart : l.found ≡ 0 → AllApart l.margin (leg_of l.a.arc) l.b.legs.string.v.now l.b.legs.string.n l.from l.k;
      flags_of : FlagsOf l.margin (leg_of l.a.arc) l.b.legs.string.v.now l.b.legs.string.n l.from l.k l.flags;
    }
