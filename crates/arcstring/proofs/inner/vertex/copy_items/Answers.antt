-- `copy_items` copies a run of items: before each turn the first i of the run are written. Assumes nothing.
use mathlib.Core.Path.{sym, ap, ◌∙◌}
use Prim.Native.Nat.{ℕ}
use native.Mathlib.Omega.{arith}
use lib.ListN.{take, drop}
use Rattle.arcstring.specs.Splice.{splice}
use Rattle.arcstring.proofs.Splices.{splice_nothing, copied_one_more}
use Rattle.arcstring.proofs.inner.vertex.copy_items.Goals as goal

pub loop-i-init : goal.loop-i-init
loop-i-init g c = sym (splice_nothing c.args.out.now c.args.to)

pub loop-i-preserved : goal.loop-i-preserved
loop-i-preserved g c =
    copied_one_more c.args.list.now c.args.out.now c.loop-i.out c.args.from c.loop-i.i c.args.to c.index-list-from.result (omega arith) (omega arith)
    c.loop-i.invariant c.index-list-from.is

pub returns : goal.returns
returns g c =
    c.loop-i.invariant
    ∙ ap (λ (i : ℕ). splice c.args.out.now c.args.to (take i (drop c.args.from c.args.list.now))) (omega (arith, c.loop-i.auto.i-end, c.loop-i-test.false))
