-- `reverse_buoys` copies the numbers to the start of the list, and reverses them there. Assumes nothing.
use mathlib.Core.Path.{◌≡◌, refl, ap, ap₂, ◌∙◌}
use mathlib.Core.List.{List, ◌++◌, reverse}
use Prim.Native.Nat.{ℕ}
use native.Mathlib.Omega.{arith}
use lib.ListN.{length, take, drop}
use lib.Seq.{take_all, take_at, drop_at}
use Rattle.arcstring.specs.Splice.{splice}
use Rattle.arcstring.proofs.Splices.{splice-start}
use Rattle.arcstring_walk.proofs.walk.reverse_buoys.Goals as goal

pub returns : goal.returns
returns c =
    let buoys = c.args.buoys.now in
    let n = length buoys in
    let past = drop n c.args.out.now in
    let copied : c.copy_items.new.out ≡ buoys ++ past =
    c.copy_items.ensures ∙ ap (splice c.args.out.now 0) (take_all n buoys (omega arith)) ∙ splice-start c.args.out.now buoys in
    ap₂ (λ (a b : List ℕ). a ++ b) (c.reverse.ensures.after ∙ ap reverse (ap (take n) copied ∙ take_at buoys past n refl))
    (ap (drop n) copied ∙ drop_at buoys past n refl)
