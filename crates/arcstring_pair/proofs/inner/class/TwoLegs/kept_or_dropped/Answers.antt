-- A grazing pair's point is kept unless it is an end. Assumes nothing.
use mathlib.Core.Path.{sym, ◌∙◌}
use Rattle.arcstring_pair.proofs.Classes.{end_dropped, other_kept}
use Rattle.arcstring_pair.proofs.inner.class.TwoLegs.kept_or_dropped.Goals as goal

pub returns-then-at_end : goal.returns-then-at_end
returns-then-at_end c = end_dropped _ _ _ (sym c.at_end.ensures ∙ c.if-at_end.true)

pub returns-else-at_end : goal.returns-else-at_end
returns-else-at_end c = other_kept _ _ _ (sym c.at_end.ensures ∙ c.if-at_end.false)
