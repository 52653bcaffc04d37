-- `insert_vertex` moves the vertices from k on one place further, and writes the point before them. Assumes nothing.
use mathlib.Core.Path.{◌≡◌, refl, ap, ◌∙◌}
use Prim.Native.Nat.{ℕ, ◌+◌, ◌-◌, ◌*◌}
use native.Mathlib.Omega.{arith}
use lib.ListN.{take, drop}
use Rattle.arcstring.specs.Splice.{splice}
use Rattle.arcstring_insert.proofs.Shifts.{floats, put_before_moved}
use Rattle.arcstring_insert.proofs.inner.insert_vertex.Goals as goal

pub returns : goal.returns
returns c =
    let e : 3 * c.args.n - 3 * c.args.k ≡ 3 * (c.args.n - c.args.k) = omega arith in
    put_before_moved c.args.work.now _ _ (3 * c.args.k) (3 * c.args.k + 3) (floats c.args.p) _ refl (omega arith)
    (c.move_on.ensures ∙ ap (λ (m : ℕ). splice c.args.work.now (3 * c.args.k + 3) (take m (drop (3 * c.args.k) c.args.work.now))) e) c.put_vertex.ensures
