-- The points at the start of a list that is worked on: all of them, how many, and after a copy. Assumes nothing.
use mathlib.Core.Path.{◌≡◌, ap, ◌∙◌}
use mathlib.Core.List.{List}
use Prim.Native.Nat.{ℕ, ◌+◌, ◌*◌, ◌≤◌}
use native.Mathlib.Omega.{arith}
use lib.ListN.{length, take}
use lib.Seq.{length-take-le, take_all}
use lib.Ieee.{Float}
use Rattle.arcstring.specs.Points.{points}
use Rattle.arcstring.specs.Splice.{splice}
use Rattle.arcstring.proofs.Flat.{take-points, length-points}
use Rattle.arcstring.proofs.Splices.{take_past_splice}
use Rattle.arcstring.specs.Work.{first_of_list}

module _ (n : ℕ) (v : List Float) where
  pub first_points_lem : first_of_list n v ≡ take n (points v)
  unfolding first_of_list
  first_points_lem = take-points n v

  pub first_whole : length v ≡ 3 * n → first_of_list n v ≡ points v
  unfolding first_of_list
  first_whole h = ap points (take_all (3 * n) v (omega arith))

pub length-first_of_list : (n : ℕ) (v : List Float) → 3 * n ≤ length v → length (first_of_list n v) ≡ n
unfolding first_of_list
length-first_of_list n v h = length-points n (take (3 * n) v) (length-take-le (3 * n) v h)

-- a run from the start of one list copied to the start of another
pub first_copied : (n : ℕ) (v old out : List Float) → 3 * n ≤ length v → out ≡ splice old 0 (take (3 * n) v) → first_of_list n out ≡ first_of_list n v
unfolding first_of_list
first_copied n v old out h e =
    let l : length (take (3 * n) v) ≡ 3 * n = length-take-le (3 * n) v h in
    let past : take (0 + length (take (3 * n) v)) (splice old 0 (take (3 * n) v)) ≡ take (3 * n) v = take_past_splice old 0 (take (3 * n) v) (omega arith) in
    let z : 0 + length (take (3 * n) v) ≡ 3 * n = omega arith in
    ap points (ap (take (3 * n)) e ∙ (rw z at past))
