-- `step` takes one byte by where it stands, by `Held`. Assumes nothing.
use mathlib.Core.Path.{◌∙◌}
use Rattle.textform_season.specs.Held.{held_season}
use Rattle.textform_season.proofs.inner.read.Held.{step-in_text, step_at-blank, step-in_column}
use Rattle.textform_season.proofs.inner.read.step.Goals as goal

pub returns-then-r-ne-ROW_START : goal.returns-then-r-ne-ROW_START
returns-then-r-ne-ROW_START c =
    c.in_text.ensures c.args.out.now
    ∙ step-in_text (held_season c.args.r c.args.limit.now c.args.track.now c.args.out.now) c.args.byte c.if-r-ne-ROW_START.true

pub returns-then-byte-eq32 : goal.returns-then-byte-eq32
returns-then-byte-eq32 c =
    c.row_of.ensures
    ∙ step_at-blank (held_season c.args.r c.args.limit.now c.args.track.now c.args.out.now) c.args.byte c.if-r-ne-ROW_START.false c.if-byte-eq32.true

pub returns : goal.returns
returns c =
    c.in_column.ensures _ _ _
    ∙ step-in_column (held_season c.args.r c.args.limit.now c.args.track.now c.args.out.now) c.args.byte c.if-r-ne-ROW_START.false c.if-byte-eq32.false
