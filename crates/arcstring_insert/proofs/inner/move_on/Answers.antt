-- `move_on` moves items on, the last one first: before each turn those from i on have been moved. Assumes nothing.
use mathlib.Core.Path.{◌≡◌, sym, ap, ◌∙◌}
use Prim.Native.Nat.{ℕ, ◌+◌, ◌-◌}
use native.Mathlib.Omega.{arith}
use lib.ListN.{take, drop}
use Rattle.arcstring.specs.Splice.{splice}
use Rattle.arcstring.proofs.Splices.{splice_nothing}
use Rattle.arcstring_insert.proofs.Shifts.{moved_one_more}
use Rattle.arcstring_insert.proofs.inner.move_on.Goals as goal

pub loop-i-init : goal.loop-i-init
loop-i-init g c =
    let old = c.args.list.now in
    let e : 0 ≡ c.args.to - c.args.to = omega arith in (
      omega (arith, c.requires.0),
      sym (splice_nothing old (c.args.to + c.args.by)) ∙ ap (λ (m : ℕ). splice old (c.args.to + c.args.by) (take m (drop c.args.to old))) e,
    )

pub loop-i-preserved : goal.loop-i-preserved
loop-i-preserved g c = (
  omega arith,
  moved_one_more c.args.list.now c.loop-i.list c.args.from c.args.to c.args.by c.loop-i.i c.index-list-i.result c.loop-i-test.true c.loop-i.auto.i
      c.requires.1 c.loop-i.auto.list c.loop-i.invariant.1 c.index-list-i.is,
)

pub returns : goal.returns
returns g c =
    c.loop-i.invariant.1
    ∙ ap (λ (j : ℕ). splice c.args.list.now (j + c.args.by) (take (c.args.to - j) (drop j c.args.list.now)))
    (omega (arith, c.loop-i.invariant.0, c.loop-i-test.false))
