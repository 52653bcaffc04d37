-- The checks of the vertices, with 2 for an open string of one vertex. Assumes nothing.
use mathlib.Core.Path.{sym, ◌∙◌}
use borrow.Author.Tests.{eqb-true, eqb-false}
use Rattle.arcstring_measure.proofs.Midpoints.{no_vertex, no_leg, some_leg}
use Rattle.arcstring_measure.proofs.measure.check_midpoints.Goals as goal

pub returns-then-is_empty : goal.returns-then-is_empty
returns-then-is_empty c = c.check_list.ensures ∙ no_vertex _ _ (eqb-true _ _ (sym c.if-is_empty.ensures))

pub returns-then-closed-v : goal.returns-then-closed-v
returns-then-closed-v c = c.check_list-then-closed-v.ensures ∙ no_leg _ _ (eqb-false _ _ (sym c.if-is_empty.ensures)) c.if-closed-v.true

pub returns : goal.returns
returns c = c.check_list-2.ensures ∙ some_leg _ _ (eqb-false _ _ (sym c.if-is_empty.ensures)) c.if-closed-v.false
