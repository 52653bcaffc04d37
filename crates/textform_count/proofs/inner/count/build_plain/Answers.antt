-- `build_plain` lends as many zeros as there are points, and answers and writes what points alone make. Assumes nothing.
use mathlib.Core.Path.{refl, sym}
use lib.Seq.{length-take-le}
use Rattle.textform_count.proofs.inner.count.BuiltStrings.{plain_built}
use borrow.Author.Rules.{rules}
use Rattle.textform_count.proofs.inner.count.build_plain.Goals as goal

pub slice_bounds-build-end : goal.slice_bounds-build-end
slice_bounds-build-end c = sym (length-take-le _ _ (search rules))

pub returns : goal.returns
returns c =
    let whole = plain_built c.args.v.now _ _ _ (length-take-le _ _ (search rules)) (search rules) refl _ c.args.out.now _ c.build.ensures.result_value
    c.build.ensures.out_after in
    record { result_value = whole.0; out_after = whole.1 }
