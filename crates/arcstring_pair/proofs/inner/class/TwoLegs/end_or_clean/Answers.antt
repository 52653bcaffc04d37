-- Where the signs agree the class is an end or clean. Assumes nothing.
use mathlib.Core.Path.{sym, ◌∙◌}
use Rattle.arcstring_pair.proofs.Classes.{end_class_lem, clean_class}
use Rattle.arcstring_pair.proofs.inner.class.TwoLegs.end_or_clean.Goals as goal

pub returns-then-at_end : goal.returns-then-at_end
returns-then-at_end c = end_class_lem _ _ _ (sym c.at_end.ensures ∙ c.if-at_end.true)

pub returns-else-at_end : goal.returns-else-at_end
returns-else-at_end c = clean_class _ _ _ (sym c.at_end.ensures ∙ c.if-at_end.false)
