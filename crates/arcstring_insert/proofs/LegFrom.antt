-- The leg that starts at a vertex, by the flat list and by its points. Assumes nothing.
use mathlib.Core.Path.{◌≡◌, refl, sym, ap, ap₂, ◌∙◌}
use mathlib.Core.Bool.{Bool, true, false}
use mathlib.Core.List.{List}
use Prim.Native.Nat.{ℕ, ◌+◌, ◌*◌, ◌≤◌, ◌<◌}
use native.Mathlib.Omega.{arith}
use lib.Dec.{ltb}
use lib.ListN.{length, get_or, take}
use lib.Seq.{length-take-le}
use lib.Ieee.{Float}
use borrow.Author.Tests.{ltb-true}
use Rattle.arcstring_check.specs.Answer.{pick}
use Rattle.arcstring.specs.Points.{points, point_at, no_point}
use Rattle.arcstring.specs.Work.{first_of_list}
use Rattle.arcstring.specs.Leg.{leg, leg_at, position_after}
use Rattle.arcstring.proofs.Flat.{length-points, point_at_lem}
use Rattle.arcstring_insert.specs.Steps.{leg_from}

module _ (v : List Float) (n k : ℕ) (whole : length v ≡ 3 * n) (within : k < n) where
  -- t whether there is a vertex after k
  end_by : (t : Bool) → (t ≡ true → k + 1 < n) → pick t (point_at v (k + 1)) (point_at v 0) ≡ get_or (points v) (pick t (k + 1) 0) no_point
  end_by true h = let l : k + 1 < n = h refl in sym (point_at_lem v (k + 1) no_point (omega arith))
  end_by false h = sym (point_at_lem v 0 no_point (omega arith))

  pub leg_from_lem : leg_at v n k ≡ leg_from (points v) k
  unfolding leg_at leg_from position_after
  leg_from_lem =
      ap₂ leg (sym (point_at_lem v k no_point (omega arith))) (end_by (ltb (k + 1) n) (ltb-true (k + 1) n))
      ∙ ap (λ (m : ℕ). leg (get_or (points v) k no_point) (get_or (points v) (pick (ltb (k + 1) m) (k + 1) 0) no_point)) (sym (length-points n v whole))

-- of the first m points of a list
pub leg_from_first : (w : List Float) (m k : ℕ) → 3 * m ≤ length w → k < m → leg_at (take (3 * m) w) m k ≡ leg_from (first_of_list m w) k
unfolding first_of_list
leg_from_first w m k room within = leg_from_lem (take (3 * m) w) m k (length-take-le (3 * m) w room) within
