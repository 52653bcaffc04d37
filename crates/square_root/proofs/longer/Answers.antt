-- `longer` meets its contract: each need is a fact of `Zimmermann`. Assumes nothing.
use native.Mathlib.Omega.{arith}
use Rattle.square_root.proofs.Zimmermann.{c_le, sh_le, divided_small, cc_small, rest_small, root_pos, root_kept, root_less}
use Rattle.square_root.proofs.longer.Goals as goal

pub overflow_mul-n-2 : goal.overflow_mul-n-2
overflow_mul-n-2 c = omega (arith, divided_small c.requires)

pub overflow_add-n : goal.overflow_add-n
overflow_add-n c = omega (arith, divided_small c.requires)

pub overflow_mul-a : goal.overflow_mul-a
overflow_mul-a c = omega (arith, sh_le c.requires)

pub overflow_add-a : goal.overflow_add-a
overflow_add-a c = omega (arith, sh_le c.requires, c_le c.requires)

pub overflow_mul-c-2 : goal.overflow_mul-c-2
overflow_mul-c-2 c = omega (arith, cc_small c.requires)

pub overflow_mul-e-2 : goal.overflow_mul-e-2
overflow_mul-e-2 c = omega (arith, rest_small c.requires)

pub overflow_add-e : goal.overflow_add-e
overflow_add-e c = omega (arith, rest_small c.requires)

pub overflow_sub-result : goal.overflow_sub-result
overflow_sub-result c = root_pos c.requires

pub returns-then-c-e : goal.returns-then-c-e
returns-then-c-e c = root_kept c.requires c.if-c-e.true

pub returns-else-c-e : goal.returns-else-c-e
returns-else-c-e c = root_less c.requires c.if-c-e.false
