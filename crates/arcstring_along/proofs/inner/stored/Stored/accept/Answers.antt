-- A refusal is the first of the two lists' checks that refuses. Assumes nothing.
use Rattle.std.proofs.lemmas.Result.{err_from_is_err_and}
use Rattle.arcstring_along.proofs.Accepted.{first_refuses, second_refuses}
use Rattle.arcstring_along.proofs.inner.stored.Stored.accept.Goals as goal

pub returns-in_err-check_stored : goal.returns-in_err-check_stored
returns-in_err-check_stored c =
    let p = err_from_is_err_and c.from_residual.result c.from_residual.ensures.1 in rw (p.1, p.2) (first_refuses _ _ _ c.in_err-check_stored.ensures)

pub returns-in_err-check_stored-2 : goal.returns-in_err-check_stored-2
returns-in_err-check_stored-2 c =
    let p = err_from_is_err_and c.from_residual-in_err-check_stored-2.result c.from_residual-in_err-check_stored-2.ensures.1 in
    rw (p.1, p.2) (second_refuses _ _ _ c.in_ok-check_stored.ensures c.in_err-check_stored-2.ensures)
