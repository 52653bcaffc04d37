-- `replace_items` writes the items that follow the run after the fresh ones, and both in the run's place. Assumes nothing.
use mathlib.Core.Path.{refl}
use Prim.Native.Nat.{◌+◌, ◌-◌}
use native.Mathlib.Omega.{arith}
use Rattle.arcstring_piece.proofs.inner.replace.Replaced.{run_replaced}
use Rattle.arcstring_piece.proofs.inner.replace.replace_items.Goals as goal

pub returns : goal.returns
returns g c =
    let rest = c.args.total - (c.args.at + c.args.old) in
    run_replaced c.args.list.now c.args.fresh.now _ _ c.args.at (c.args.at + c.args.old) c.args.size rest (c.args.size + rest) (omega arith) (omega arith) refl
    c.copy_items.ensures c.copy_items-2.ensures
