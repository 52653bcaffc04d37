-- `root54` meets its contract, a whole root of 7 digits, of 14, of 27 and of 54, by `Tower`. Assumes nothing.
use mathlib.Core.Path.{subst}
use Prim.Native.Nat.{ℕ, ◌/◌, ◌^◌}
use Rattle.square_root.specs.RootStep.{WholeRoot}
use Rattle.square_root.proofs.Tower.{step_14, step_27, step_54, digits_28, digits_54}
use Rattle.square_root.proofs.root54.Goals as goal

pub longer-r14-requires : goal.longer-r14-requires
longer-r14-requires c = step_14 c.requires c.root7-r7.ensures

pub longer-r27-requires : goal.longer-r27-requires
longer-r27-requires c =
    let root-14 : WholeRoot (c.args.m / 2 ^ 26) c.longer-r14.result =
    subst (λ (n : ℕ). WholeRoot n c.longer-r14.result) (digits_28 c.args.m) c.longer-r14.ensures in
    step_27 c.requires root-14

pub longer-requires : goal.longer-requires
longer-requires c =
    let root-27 : WholeRoot c.args.m c.longer-r27.result = subst (λ (n : ℕ). WholeRoot n c.longer-r27.result) (digits_54 c.args.m) c.longer-r27.ensures in
    step_54 c.requires root-27
