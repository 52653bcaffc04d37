-- The sign bit is clear: of a NaN it counts as set. Assumes nothing.
use mathlib.Core.Path.{sym, ◌∙◌}
use Rattle.arcstring_sides.proofs.Signs.{library_positive, nan_positive}
use Rattle.arcstring_sides.proofs.inner.is_sign_positive.Goals as goal

pub returns-then-not-is_nan : goal.returns-then-not-is_nan
returns-then-not-is_nan c = c.is_sign_positive.ensures ∙ library_positive c.args.x (sym c.is_nan.ensures.value ∙ c.if-not-is_nan.true)

pub returns-else-not-is_nan : goal.returns-else-not-is_nan
returns-else-not-is_nan c = nan_positive c.args.x _ c.is_nan.ensures.value c.if-not-is_nan.false
