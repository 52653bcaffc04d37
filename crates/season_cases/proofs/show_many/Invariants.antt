-- `show_many` makes an input of so many tracks, within its buffer, and shows it. Assumes nothing.
use Rattle.std.proofs.Common.{◌≤◌, ◌+◌, ◌*◌}
use Rattle.season_cases.proofs.show_many.Given as goal

abbrev pub invariant-loop-n : goal.invariant-loop-n
invariant-loop-n g l = l.at ≤ 40 + 160 * l.n
