-- What a grazing pair keeps, by the signs of its side values. Assumes nothing.
use mathlib.Core.Path.{sym, ◌∙◌}
use Rattle.arcstring_pair.proofs.Classes.{positive_outcome, negative_outcome, mixed_outcome}
use Rattle.arcstring_pair.proofs.inner.class.TwoLegs.grazing_outcome.Goals as goal

pub returns-then-all_sign_positive : goal.returns-then-all_sign_positive
returns-then-all_sign_positive c =
    positive_outcome _ _ _ _ _ (sym c.all_sign_positive.ensures ∙ c.if-all_sign_positive.true) c.kept_or_dropped.ensures

pub returns-then-all_sign_negative : goal.returns-then-all_sign_negative
returns-then-all_sign_negative c =
    negative_outcome _ _ _ _ _ _ (sym c.all_sign_positive.ensures ∙ c.if-all_sign_positive.false)
    (sym c.all_sign_negative.ensures ∙ c.if-all_sign_negative.true) c.xyz_neg.ensures c.kept_or_dropped-then-all_sign_negative.ensures

pub returns : goal.returns
returns c =
    mixed_outcome _ _ _ _ (sym c.all_sign_positive.ensures ∙ c.if-all_sign_positive.false)
    (sym c.all_sign_negative.ensures ∙ c.if-all_sign_negative.false)
