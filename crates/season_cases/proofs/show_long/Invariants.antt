-- `show_long` makes an input of a row so many times, within its buffer, and shows it. Assumes nothing.
use Rattle.std.proofs.Common.{◌≤◌, ◌+◌, ◌*◌}
use Rattle.season_cases.proofs.show_long.Given as goal

abbrev pub invariant-loop-row : goal.invariant-loop-row
invariant-loop-row g l = l.at ≤ 400 + 60 * l._row
