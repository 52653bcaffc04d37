-- `round` leaves what one round leaves, or refuses where a removal lies past the end. Assumes nothing.
use mathlib.Core.Path.{ap}
use mathlib.Core.Bool.{not}
use mathlib.Core.List.{map}
use native.Mathlib.Omega.{arith}
use lib.ListN.{length-map}
use Rattle.arcstring.specs.Points.{point_at}
use Rattle.arcstring_rounds.proofs.inner.OneRound.{left_of_open, left_by_first, left_past_end, left_shifted}
use Rattle.arcstring_rounds.proofs.inner.Chosen.round.Goals as goal

pub returns-then-not-closed : goal.returns-then-not-closed
returns-then-not-closed c =
    let at = c.args.self.at.now in
    let ps = map (point_at c.args.self.v.now) at in
    let same = length-map at (point_at c.args.self.v.now) in
    (left_of_open ps at same c.args.self.enough.1 c.args.closed _ (ap not c.if-not-closed.true) c.keep.ensures.1, c.keep.ensures.0)

pub returns-then-not-unnecessary : goal.returns-then-not-unnecessary
returns-then-not-unnecessary c =
    let at = c.args.self.at.now in
    let ps = map (point_at c.args.self.v.now) at in
    let same = length-map at (point_at c.args.self.v.now) in (
      left_by_first ps at same c.args.self.enough.1 c.args.closed (ap not c.if-not-closed.false) _ c.unnecessary.ensures _
          (ap not c.if-not-unnecessary.true) c.keep-then-not-unnecessary.ensures.1,
      c.keep-then-not-unnecessary.ensures.0,
    )

pub returns-then-unnecessary : goal.returns-then-unnecessary
returns-then-unnecessary c =
    let at = c.args.self.at.now in
    let ps = map (point_at c.args.self.v.now) at in
    let same = length-map at (point_at c.args.self.v.now) in (
      left_past_end ps at same c.args.self.enough.1 c.args.closed (ap not c.if-not-closed.false) _ c.unnecessary.ensures
          (ap not c.if-not-unnecessary.false) _ c.unnecessary-2.ensures c.if-unnecessary.true,
      omega arith,
    )

pub returns : goal.returns
returns c =
    let at = c.args.self.at.now in
    let ps = map (point_at c.args.self.v.now) at in
    let same = length-map at (point_at c.args.self.v.now) in (
      left_shifted ps at same c.args.self.enough.1 c.args.closed (ap not c.if-not-closed.false) _ c.unnecessary.ensures
          (ap not c.if-not-unnecessary.false) _ c.unnecessary-2.ensures _ c.if-unnecessary.false c.keep-2.ensures.1,
      c.keep-2.ensures.0,
    )
