-- `cut_legs` cuts at one point, place after place: the places that are left, from the legs that stand in the list, give the whole answer. Assumes nothing.
use mathlib.Core.Path.{◌≡◌}
use Prim.Native.Nat.{◌≤◌, ◌-◌}
use Rattle.arcstring_insert.specs.Steps.{for_positions}
use Rattle.arcstring_split_leg.specs.SplitLeg.{cut_leg_at, cut_legs}
use Rattle.arcstring_split_leg.specs.Worked.{standing}
use Rattle.arcstring_split_leg.proofs.cut_leg.Work.cut_legs.Given as goal

abbrev pub invariant-loop-k : goal.invariant-loop-k
invariant-loop-k l =
    (l.initial.self.count ≤ l.self.count)
    × (for_positions (cut_leg_at l.p) l.k (l.initial.self.count - l.k) (standing l.self) ≡ cut_legs l.p (standing l.initial.self))
