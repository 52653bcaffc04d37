-- `root7` meets its contract, by `Tower`. Assumes nothing.
use native.Mathlib.Omega.{arith}
use Rattle.square_root.proofs.Tower.{table_lt, next_square_small, next_root}
use Rattle.square_root.proofs.root7.Goals as goal

pub overflow_add-s : goal.overflow_add-s
overflow_add-s c = omega (arith, table_lt c.requires c.table_root-s.ensures)

pub overflow_add-s-2 : goal.overflow_add-s-2
overflow_add-s-2 c = omega (arith, table_lt c.requires c.table_root-s.ensures)

pub overflow_mul-s : goal.overflow_mul-s
overflow_mul-s c = record { fits = next_square_small c.requires c.table_root-s.ensures }

pub returns-then-s-m : goal.returns-then-s-m
returns-then-s-m c = next_root c.requires c.table_root-s.ensures c.if-s-m.true
