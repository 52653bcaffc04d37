-- `keep` copies the first position and those that the walk keeps: what stands in `next` and what the walk still keeps is the whole. Assumes nothing.
use mathlib.Core.Bool.{not}
use mathlib.Core.Path.{◌≡◌, ap}
use mathlib.Core.List.{map}
use native.Mathlib.Omega.{arith}
use lib.ListN.{length, length-set}
use Rattle.arcstring.specs.Points.{point_at}
use Rattle.arcstring_rounds.proofs.inner.Keeps.{keep-start, pass_over, keep_on, keep_end}
use Rattle.arcstring_rounds.proofs.inner.Chosen.keep.Goals as goal
use Rattle.arcstring_rounds.proofs.inner.Chosen.keep.Goals.{then-not-unnecessary, else-not-unnecessary}

pub loop-k-init : goal.loop-k-init
loop-k-init c =
    let ps = map (point_at c.args.self.v.now) c.args.self.at.now in
    (omega arith, omega arith, omega arith, keep-start 0 ps c.args.self.at.now c.args.skip c.args.next.now (omega arith) (omega arith))

pub loop-k-preserved : goal.loop-k-preserved
loop-k-preserved c =
    let size : length c.loop-k.next ≡ length c.args.next.now = simp length-set at c.loop-k.auto.next in
    let ps = map (point_at c.args.self.v.now) c.args.self.at.now in
    elim c.if-not-unnecessary.branch [
      | then-not-unnecessary w ↦ (
        omega arith,
        omega arith,
        omega arith,
        keep_on 0 ps c.args.self.at.now c.loop-k.k c.args.skip _ c.loop-k.kept _ c.loop-k.next _ _ (omega arith) c.unnecessary.ensures c.loop-k.invariant.3
            (ap not w.if-not-unnecessary.true) (omega arith) w.next-is w.kept-is,
      )
      | else-not-unnecessary w ↦ (
        omega arith,
        omega arith,
        omega arith,
        pass_over 0 ps c.args.self.at.now c.loop-k.k c.args.skip _ c.loop-k.kept _ c.loop-k.next _ _ (omega arith) c.unnecessary.ensures c.loop-k.invariant.3
            (ap not w.if-not-unnecessary.false) w.next-is w.kept-is,
      )
    ]

pub returns : goal.returns
returns c =
    let ps = map (point_at c.args.self.v.now) c.args.self.at.now in
    (omega arith, keep_end 0 ps c.args.self.at.now c.loop-k.k c.args.skip _ _ (omega arith) c.loop-k.invariant.3)
