-- The class by the four side values. Assumes nothing.
use mathlib.Core.Path.{sym, ◌∙◌}
use Rattle.arcstring_pair.proofs.Classes.{grazing_class_lem, above_class, below_class, apart_class_lem}
use Rattle.arcstring_pair.proofs.inner.class.class_at.Goals as goal

pub returns-then-some_grazing : goal.returns-then-some_grazing
returns-then-some_grazing c = grazing_class_lem _ _ _ _ _ _ (sym c.some_grazing.ensures ∙ c.if-some_grazing.true) c.grazing_outcome.ensures

pub returns-then-all_above : goal.returns-then-all_above
returns-then-all_above c =
    above_class _ _ _ _ _ _ (sym c.some_grazing.ensures ∙ c.if-some_grazing.false)
    (sym c.all_above.ensures ∙ c.if-all_above.true) c.end_or_clean.ensures

pub returns-then-all_below : goal.returns-then-all_below
returns-then-all_below c =
    below_class _ _ _ _ _ _ _ (sym c.some_grazing.ensures ∙ c.if-some_grazing.false)
    (sym c.all_above.ensures ∙ c.if-all_above.false) (sym c.all_below.ensures ∙ c.if-all_below.true) c.xyz_neg.ensures
    c.end_or_clean-then-all_below.ensures

pub returns : goal.returns
returns c =
    apart_class_lem _ _ _ _ _ (sym c.some_grazing.ensures ∙ c.if-some_grazing.false)
    (sym c.all_above.ensures ∙ c.if-all_above.false) (sym c.all_below.ensures ∙ c.if-all_below.false)
