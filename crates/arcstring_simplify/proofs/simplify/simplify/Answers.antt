-- `simplify` answers as its check does, and else as `simplify_sized` does, in lists of either size. Assumes nothing.
use Rattle.std.proofs.lemmas.Result.{err_from_is_err_and}
use mathlib.Core.Path.{sym}
use native.Mathlib.Omega.{arith}
use Rattle.arcstring_check.proofs.Checks.{stored_whole, string-stored}
use Rattle.arcstring_simplify.proofs.Simplifies.{simplify_refused}
use Rattle.arcstring_simplify.proofs.simplify.simplify.Goals as goal

pub returns-in_err-check_string : goal.returns-in_err-check_string
returns-in_err-check_string c =
    let p = err_from_is_err_and c.from_residual.result c.from_residual.ensures.1 in
    let whole = simplify_refused c.args.v.now c.args.buoys.now c.args.closed c.args.out.now c.args.out_buoys.now _ c.in_err-check_string.ensures in
    record { result_value = rw (p.1, p.2) whole.0; out_after = whole.1.0; out_buoys_after = whole.1.1 }

-- 192 floats at most are 64 vertices at most
pub simplify_sized-requires : goal.simplify_sized-requires
simplify_sized-requires c = (sym c.in_ok-check_string.ensures, omega arith, omega arith)

pub simplify_sized-requires-2 : goal.simplify_sized-requires-2
simplify_sized-requires-2 c =
    let most = (stored_whole c.args.v.now (string-stored c.args.v.now c.args.buoys.now (sym c.in_ok-check_string.ensures))).at_most in
    (sym c.in_ok-check_string.ensures, most, omega arith)
