-- `replace_run` replaces three floats for each vertex. Assumes nothing.
use mathlib.Core.Path.{◌≡◌, ap₂, ◌∙◌}
use mathlib.Core.List.{◌++◌}
use Prim.Native.Nat.{ℕ, ◌+◌, ◌-◌, ◌*◌}
use native.Mathlib.Omega.{arith}
use lib.ListN.{take, drop}
use Rattle.arcstring.specs.Splice.{splice}
use Rattle.arcstring_piece.proofs.inner.replace.replace_run.Goals as goal

pub returns : goal.returns
returns c =
    let rest : 3 * c.args.total - (3 * c.args.at + 3 * c.args.old) ≡ 3 * (c.args.total - (c.args.at + c.args.old)) = omega arith in
    let past : 3 * c.args.at + 3 * c.args.old ≡ 3 * (c.args.at + c.args.old) = omega arith in
    c.replace_items.ensures
    ∙ ap₂ (λ (n j : ℕ). splice c.args.v.now (3 * c.args.at) (take (3 * c.args.size) c.args.fresh.now ++ take n (drop j c.args.v.now))) rest past
