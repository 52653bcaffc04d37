-- The sign bit is set: of a NaN it counts as clear. Assumes nothing.
use mathlib.Core.Path.{◌∙◌}
use Rattle.arcstring_sides.proofs.Signs.{library_negative, nan_negative}
use Rattle.arcstring_sides.proofs.inner.is_sign_negative.Goals as goal

pub returns-then-not-is_nan : goal.returns-then-not-is_nan
returns-then-not-is_nan c = c.is_sign_negative.ensures ∙ library_negative c.args.x

pub returns-else-not-is_nan : goal.returns-else-not-is_nan
returns-else-not-is_nan c = nan_negative c.args.x _ c.is_nan.ensures.value c.if-not-is_nan.false
