-- `insert_buoy` moves the numbers from k on one place further, and writes the number before them. Assumes nothing.
use mathlib.Core.Path.{refl}
use mathlib.Core.List.{[], ◌∷◌}
use Prim.Native.Nat.{◌+◌}
use native.Mathlib.Omega.{arith}
use Rattle.arcstring.proofs.Splices.{set-splice}
use Rattle.arcstring_insert.proofs.Shifts.{put_before_moved}
use Rattle.arcstring_insert.proofs.inner.insert_buoy.Goals as goal

pub returns : goal.returns
returns c =
    put_before_moved c.args.buoys.now _ _ c.args.k (c.args.k + 1) (c.args.buoy ∷ []) _ refl (omega arith)
    c.move_on.ensures (set-splice _ c.args.k c.args.buoy (omega (arith, c.move_on.auto.list)))
