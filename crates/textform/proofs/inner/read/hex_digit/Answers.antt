-- `read::hex_digit` gives a hexadecimal digit's value, whichever range its byte is in, by `Digits`. Assumes nothing.
use native.Mathlib.Omega.{arith}
use Rattle.textform.proofs.inner.read.Digits.{before_digits, at_digit, between, at_letter, past_letters}
use Rattle.textform.proofs.inner.read.hex_digit.Goals as goal

pub returns-in-48-to-57 : goal.returns-in-48-to-57
returns-in-48-to-57 c = at_digit c.args.byte (omega arith) (omega arith)

pub returns-in-65-to-70 : goal.returns-in-65-to-70
returns-in-65-to-70 c = at_letter c.args.byte (omega arith) (omega arith)

pub returns-in_default : goal.returns-in_default
returns-in_default c = before_digits c.args.byte (omega arith)

pub returns-in_default-2 : goal.returns-in_default-2
returns-in_default-2 c = between c.args.byte (omega arith) (omega arith)

pub returns-in_default-3 : goal.returns-in_default-3
returns-in_default-3 c = past_letters c.args.byte (omega arith)
