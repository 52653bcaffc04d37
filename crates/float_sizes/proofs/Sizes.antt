-- The library's size of a float is the definition's: both clear its sign. Assumes nothing.
use Rattle.std.specs.Prelude.{◌≡◌, refl, false, Float}
use Rattle.std.specs.Float.{nan, inf, fin}
use Rattle.std.specs.Float.{float_with_sign}
use Rattle.ieee754.specs.Size.{abs}

pub sign_cleared : (x : Float) → float_with_sign false x ≡ abs x
unfolding float_with_sign abs
sign_cleared nan = refl
sign_cleared (inf s) = refl
sign_cleared (fin s m e) = refl
