-- `conclude` prints 8 where the input is malformed, and else what `count_built` answers. Assumes nothing.
use mathlib.Core.Path.{sym}
use native.Mathlib.Omega.{arith}
use lib.Seq.{length-take-le}
use Rattle.textform.specs.Held.{held_state}
use Rattle.textform_count.proofs.inner.count.Concluded.{malformed-printed, conclusion_printed}
use Rattle.textform_count.proofs.inner.count.conclude.Goals as goal

pub returns-then-r-ne-ROW_START : goal.returns-then-r-ne-ROW_START
returns-then-r-ne-ROW_START c =
    (malformed-printed (held_state c.args.r c.args.a.now c.args.b.now) _ c.if-r-ne-ROW_START.true c.print_refusal.ensures.0, c.print_refusal.ensures.1)

pub slice_bounds-count_built-end : goal.slice_bounds-count_built-end
slice_bounds-count_built-end c = sym (length-take-le _ _ (omega arith))

pub slice_bounds-count_built-end-2 : goal.slice_bounds-count_built-end-2
slice_bounds-count_built-end-2 c = sym (length-take-le _ _ (omega arith))

pub count_built-requires : goal.count_built-requires
count_built-requires c = (
  omega (arith, length-take-le c.args.r.a c.args.a.now (omega arith)),
  omega (arith, length-take-le c.args.r.b c.args.b.now (omega arith)),
)

pub returns-in-Err : goal.returns-in-Err
returns-in-Err c =
    let text = rw c.from.ensures at c.print_refusal-in-Err.ensures.0 in
    (conclusion_printed (held_state c.args.r c.args.a.now c.args.b.now) _ _ c.if-r-ne-ROW_START.false c.in-Err.ensures text, c.print_refusal-in-Err.ensures.1)

pub returns-in-Ok : goal.returns-in-Ok
returns-in-Ok c = (
  conclusion_printed (held_state c.args.r c.args.a.now c.args.b.now) _ _ c.if-r-ne-ROW_START.false c.in-Ok.ensures c.print_counts.ensures.0,
  c.print_counts.ensures.1,
)
