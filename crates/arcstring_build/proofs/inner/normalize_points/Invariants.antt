-- `normalize_points` normalises the first points of a list in place: after i turns the first i are normalised. Assumes nothing.
use mathlib.Core.Path.{◌≡◌}
use Prim.Native.Nat.{◌*◌}
use lib.ListN.{take}
use Rattle.arcstring.specs.Points.{points, flat}
use Rattle.arcstring.specs.Splice.{splice}
use Rattle.arcstring_build.specs.Build.{normalized_all}
use Rattle.arcstring_build.proofs.inner.normalize_points.Given as goal

abbrev pub invariant-loop-i : goal.invariant-loop-i
invariant-loop-i l = l.out ≡ splice l.initial.out 0 (flat (normalized_all (points (take (3 * l.i) l.initial.out))))
