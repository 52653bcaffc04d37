-- What `simplify_points` left at the start of the room is the copy of the definitions, and accepted. Assumes nothing.
use native.Mathlib.Omega.{arith}
use Rattle.std.proofs.lemmas.Result.{err_from_is_err_and}
use Rattle.arcstring_equals.proofs.Copies.{copy_refused, copy_stands, copy_accepted, copy_count}
use Rattle.arcstring_equals.proofs.simplified.simplified_copy.Goals as goal

pub returns-in_err-n : goal.returns-in_err-n
returns-in_err-n c =
    let p = err_from_is_err_and c.from_residual.result c.from_residual.ensures.1 in
    rw (p.1, p.2) (copy_refused c.args.s _ _ c.in_err-n.ensures.result_value (omega arith))

pub overflow_mul-v : goal.overflow_mul-v
overflow_mul-v c = omega (arith, copy_count c.args.s _ _ _ _ c.in_ok-n.ensures.result_value c.simplify_points.ensures.out_after (omega arith))

pub shared_ref_as_front-v : goal.shared_ref_as_front-v
shared_ref_as_front-v c = omega (arith, copy_count c.args.s _ _ _ _ c.in_ok-n.ensures.result_value c.simplify_points.ensures.out_after (omega arith))

pub invariant_of-result : goal.invariant_of-result
invariant_of-result c =
    record { accepted = (copy_accepted c.args.s _ _ _ _ c.in_ok-n.ensures.result_value c.simplify_points.ensures.out_after (omega arith), c.args.s.accepted.0) }

pub returns : goal.returns
returns c = copy_stands c.args.s _ _ _ _ c.in_ok-n.ensures.result_value c.simplify_points.ensures.out_after (omega arith)
