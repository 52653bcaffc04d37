-- `insert_point` walks over the legs: the walk that is left, from the vertices that stand in the lists, gives the whole answer. Assumes nothing.
use mathlib.Core.Path.{◌≡◌}
use Prim.Native.Nat.{◌≤◌, ◌+◌, ◌-◌}
use Rattle.arcstring.specs.Points.{place_of}
use Rattle.arcstring_insert.specs.Insert.{insert_point, insert_walk}
use Rattle.arcstring_insert.specs.Worked.{standing}
use Rattle.arcstring_insert.proofs.insert.Work.insert_point.Given as goal

abbrev pub invariant-loop : goal.invariant-loop
invariant-loop l =
    (l.k + (l.legs - l.counter) ≤ l.self.count)
    × (insert_walk place_of l.x l.k (l.legs - l.counter) (standing l.self) ≡ insert_point place_of l.closed l.x (standing l.initial.self))
