-- `show_long` makes an input of n rows and what comes after them, within its buffer, and shows it. Assumes nothing.
use Rattle.std.proofs.Common.{◌≡◌, ◌+◌, ◌*◌}
use Rattle.textform.specs.Text.{row_start, row_bytes}
use Rattle.legcount_cases.proofs.show_long.Given as goal

abbrev pub invariant-loop-row : goal.invariant-loop-row
invariant-loop-row g l = l.at ≡ row_start + row_bytes * l._row
