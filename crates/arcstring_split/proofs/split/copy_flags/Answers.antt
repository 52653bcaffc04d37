-- `copy_flags` copies the flags, each as 0 or 1: after i turns the first i are written. Assumes nothing.
use mathlib.Core.Path.{sym}
use native.Mathlib.Omega.{arith}
use Rattle.arcstring.proofs.Splices.{splice_nothing}
use Rattle.arcstring_split.proofs.split.FlagsCopied.{flags_step, all_flags}
use Rattle.arcstring_split.proofs.split.copy_flags.Goals as goal

pub loop-i-init : goal.loop-i-init
loop-i-init c = sym (splice_nothing _ _)

pub loop-i-preserved : goal.loop-i-preserved
loop-i-preserved c =
    flags_step c.args.closed.now c.args.out.now _ c.loop-i.i _ (omega arith) (omega (arith, c.requires)) c.loop-i.invariant c.from.ensures

pub returns : goal.returns
returns c = all_flags c.args.closed.now c.args.out.now _ c.loop-i.i (omega arith) c.loop-i.invariant
