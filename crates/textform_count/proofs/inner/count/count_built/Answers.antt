-- `count_built` builds both strings and hands on what the counting call answers for them. Assumes nothing.
use mathlib.Core.Path.{sym, ◌∙◌}
use native.Mathlib.Omega.{arith}
use lib.Ieee.{of_bits}
use Rattle.std.proofs.lemmas.Result.{err_from_is_err_and}
use Rattle.textform_count.proofs.inner.count.BuiltStrings.{build_stands, first_refused, second_refused, both_counted}
use Rattle.textform_count.proofs.inner.count.count_built.Goals as goal

pub returns-in_err-n : goal.returns-in_err-n
returns-in_err-n c =
    let p = err_from_is_err_and c.from_residual.result c.from_residual.ensures.1 in
    rw (p.1, p.2) (first_refused c.args.a.now c.args.b.now _ c.in_err-n.ensures.result_value)

pub returns-in_err-m : goal.returns-in_err-m
returns-in_err-m c =
    let first = build_stands _ _ _ c.in_ok-n.ensures.out_after _ _ c.in_ok-n.ensures.result_value in
    let p = err_from_is_err_and c.from_residual-in_err-m.result c.from_residual-in_err-m.ensures.1 in
    rw (p.1, p.2) (second_refused c.args.a.now c.args.b.now _ first.accepted c.in_err-m.ensures.result_value)

pub overflow_mul-first : goal.overflow_mul-first
overflow_mul-first c = let first = build_stands _ _ _ c.in_ok-n.ensures.out_after _ _ c.in_ok-n.ensures.result_value in omega (arith, first.few)

pub slice_bounds-first-end : goal.slice_bounds-first-end
slice_bounds-first-end c = let first = build_stands _ _ _ c.in_ok-n.ensures.out_after _ _ c.in_ok-n.ensures.result_value in first.within

pub slice_bounds-count-end : goal.slice_bounds-count-end
slice_bounds-count-end c = let first = build_stands _ _ _ c.in_ok-n.ensures.out_after _ _ c.in_ok-n.ensures.result_value in sym first.floats

pub overflow_mul-second : goal.overflow_mul-second
overflow_mul-second c = let second = build_stands _ _ _ c.in_ok-m.ensures.out_after _ _ c.in_ok-m.ensures.result_value in omega (arith, second.few)

pub slice_bounds-second-end : goal.slice_bounds-second-end
slice_bounds-second-end c = let second = build_stands _ _ _ c.in_ok-m.ensures.out_after _ _ c.in_ok-m.ensures.result_value in second.within

pub slice_bounds-count-end-2 : goal.slice_bounds-count-end-2
slice_bounds-count-end-2 c = let second = build_stands _ _ _ c.in_ok-m.ensures.out_after _ _ c.in_ok-m.ensures.result_value in sym second.floats

pub returns : goal.returns
unfolding of_bits
returns c =
    let first = build_stands _ _ _ c.in_ok-n.ensures.out_after _ _ c.in_ok-n.ensures.result_value in
    let second = build_stands _ _ _ c.in_ok-m.ensures.out_after _ _ c.in_ok-m.ensures.result_value in
    c.count.ensures ∙ both_counted _ _ _ _ _ _ _ _ c.type_inv.a c.type_inv.b first second
