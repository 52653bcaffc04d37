-- A string walked backwards, or restarted at any position, holds the same marks: its legs are the same ones in another order, each turned round or none, and a
-- leg and its reverse hold the same marks. Assumes nothing.
use mathlib.Core.Path.{◌∙◌}
use Rattle.arcstring.specs.Leg.{legs}
use Rattle.arcstring_along.proofs.FirstFound.{any_order, any_changed}
use Rattle.arcstring_mark.specs.Mark.{mark_on_string}
use Rattle.arcstring_mark.proofs.HoldingLegs.{holding_finds}
use Rattle.arcstring_mark.proofs.TurnedMarks.{reverse_holds}
use Rattle.same_crossings.proofs.LegLists.{turned, legs_backwards, legs-restarted}
use Rattle.same_marks.specs.SameMarks.{BackwardsHolds, RestartedHolds}

pub backwards_holds : BackwardsHolds
unfolding mark_on_string
backwards_holds p ps closed =
    any_order (holding_finds p) (legs_backwards ps closed)
    ∙ any_changed (holding_finds p) turned (λ l. reverse_holds p l.from l.to) (legs ps closed)

pub restarted_holds : RestartedHolds
unfolding mark_on_string
restarted_holds p ps closed k = any_order (holding_finds p) (legs-restarted ps closed k)
