-- Pairs that are all apart are counted on. Assumes nothing.
use Prim.Native.Nat.{◌-◌}
use native.Mathlib.Omega.{arith}
use Rattle.arcstring_tally.proofs.Tallies.{count_aparts, count_no_aparts}
use Rattle.arcstring_tally.proofs.inner.tally.Tally.add_apart.Goals as goal

pub returns-then-to-from : goal.returns-then-to-from
returns-then-to-from c = count_no_aparts c.args.self (c.args.to - c.args.from - c.args.found) (omega arith)

pub returns : goal.returns
returns c = count_aparts c.args.self (c.args.to - c.args.from - c.args.found)
