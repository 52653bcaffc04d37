-- The first numbers of a list, and one more. Assumes nothing.
use mathlib.Core.Path.{◌≡◌}
use mathlib.Core.List.{List, [], ◌∷◌, ◌++◌}
use Prim.Native.Nat.{ℕ, ◌+◌, ◌<◌}
use native.Mathlib.Numerals.{add-one}
use lib.ListN.{length, get_or, take}
use lib.Seq.{take-suc}

pub take_more : (list : List ℕ) (i : ℕ) → i < length list → take (i + 1) list ≡ take i list ++ (get_or list i 0 ∷ [])
take_more list i h = rw add-one (take-suc list i 0 h)
