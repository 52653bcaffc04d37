-- `copy_flags` copies the flags, each as 0 or 1: after i turns the first i are written. Assumes nothing.
use mathlib.Core.Path.{◌≡◌}
use lib.ListN.{take}
use Rattle.arcstring.specs.Splice.{splice}
use Rattle.arcstring_split.specs.Handed.{flags_of}
use Rattle.arcstring_split.proofs.split.copy_flags.Given as goal

abbrev pub invariant-loop-i : goal.invariant-loop-i
invariant-loop-i l = l.out ≡ splice l.initial.out 0 (flags_of (take l.i l.closed))
