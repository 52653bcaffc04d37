-- `print_refusal` writes the word, and the number with a line feed after it. Assumes nothing.
use native.Mathlib.Omega.{arith}
use Rattle.textform.proofs.inner.print.Printed.{refusal_written}
use Rattle.textform.proofs.inner.print.print_refusal.Goals as goal

pub returns : goal.returns
returns c = (refusal_written _ _ _ c.put_text-at.ensures.1 (rw c.from.ensures at c.put_number.ensures.1), omega arith)
