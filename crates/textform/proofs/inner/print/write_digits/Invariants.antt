-- `write_digits`: the digits still to write, and then those written, are the digits of the number. Assumes nothing.
use Rattle.std.proofs.Common.{◌≡◌, ◌++◌, length, drop}
use Rattle.textform.specs.Digits.{last_digits}
use Rattle.textform.proofs.inner.print.write_digits.Given as goal

abbrev pub invariant-loop-i : goal.invariant-loop-i
invariant-loop-i l = last_digits l.i l.rest ++ drop l.i l.out ≡ last_digits (length l.initial.out) l.n
