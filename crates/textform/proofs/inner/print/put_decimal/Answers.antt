-- `put_decimal` writes the fewest digits that hold a number, which are at most 20, by `Decimals`. Assumes nothing.
use Rattle.std.proofs.Common.{◌≡◌, ◌∙◌, ap, ℕ, ◌-◌, ◌+◌, ◌++◌, List, length, take, drop, arith, length-take, length-drop}
use Rattle.std.proofs.lemmas.Slice.{take-put_mid}
use Rattle.textform.specs.Digits.{last_digits}
use Rattle.textform.proofs.inner.print.Decimals.{fewest_few, decimal_digits}
use Rattle.textform.proofs.inner.print.put_decimal.Goals as goal

pub overflow_add-end : goal.overflow_add-end
overflow_add-end c = let few = fewest_few c.digit_count.result c.args.n (omega arith) c.digit_count.ensures in omega arith

pub slice_bounds-write_digits-end : goal.slice_bounds-write_digits-end
slice_bounds-write_digits-end c = let few = fewest_few c.digit_count.result c.args.n (omega arith) c.digit_count.ensures in omega arith

pub returns : goal.returns
returns c =
    let count = c.digit_count.result in
    let at = c.args.at in
    let old = c.args.out.now in
    let few = fewest_few count c.args.n (omega arith) c.digit_count.ensures in
    let room : length (take (at + count - at) (drop at old)) ≡ count = simp (length-take, length-drop) (omega arith) in
    let digits = c.write_digits.ensures ∙ ap (λ (k : ℕ). last_digits k c.args.n) room ∙ decimal_digits count c.args.n (omega arith) c.digit_count.ensures in
    let written = take-put_mid at (at + count - at) old c.write_digits.new.out (at + count) (omega (arith, c.write_digits.auto.out)) (omega arith) in
    (omega arith, written ∙ ap (λ (l : List ℕ). take at old ++ l) digits)
