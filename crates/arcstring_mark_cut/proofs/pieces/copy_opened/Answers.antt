-- `copy_opened` copies the vertices and their numbers, and of a closed string vertex 0 once more behind them. Assumes nothing.
use mathlib.Core.Path.{sym, ◌∙◌}
use native.Mathlib.Omega.{arith}
use Rattle.arcstring_mark_cut.specs.Standing.{opened_room}
use Rattle.arcstring_mark_cut.proofs.OpenedStrings.{opened_open, opened_closed}
use Rattle.arcstring_mark_cut.proofs.pieces.copy_opened.Goals as goal

pub returns-then-not-closed : goal.returns-then-not-closed
returns-then-not-closed c = (
  opened_open _ _ c.args.closed c.len-n.result opened_room (omega (arith, c.args.string.as_many, c.len-n.ensures)) (sym c.len-n.ensures)
      (omega (arith, c.len-n.ensures)) _ c.copy_run.new.out _ c.copy_items.new.out c.copy_run.ensures c.copy_items.ensures
      (c.copy_run.auto.out ∙ c.requires.2) (c.copy_items.auto.out ∙ c.requires.3) (omega (arith, c.len-n.ensures)) c.if-not-closed.true,
  omega (arith, c.len-n.ensures),
  omega (arith, c.len-n.ensures),
)

pub returns : goal.returns
returns c = (
  opened_closed _ _ c.args.closed c.len-n.result opened_room (omega (arith, c.args.string.as_many, c.len-n.ensures)) (sym c.len-n.ensures)
      (omega (arith, c.len-n.ensures)) _ c.copy_run.new.out _ c.copy_items.new.out c.copy_run.ensures c.copy_items.ensures
      (c.copy_run.auto.out ∙ c.requires.2) (c.copy_items.auto.out ∙ c.requires.3) c.copy_run-2.new.out c.copy_items-2.new.out
      (omega (arith, c.len-n.ensures)) c.if-not-closed.false c.copy_run-2.ensures c.copy_items-2.ensures,
  omega arith,
  omega (arith, c.len-n.ensures),
)
