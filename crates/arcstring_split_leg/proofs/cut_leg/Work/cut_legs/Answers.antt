-- `cut_legs` cuts at one point, place after place: the places that are left, from the legs that stand in the list, give the whole answer. Assumes nothing.
use Rattle.std.proofs.lemmas.Result.{err_from_is_err_and}
use native.Mathlib.Omega.{arith}
use Rattle.arcstring_split_leg.proofs.LegSplits.{places_begin, places_end, places_stop, places_on}
use Rattle.arcstring_split_leg.proofs.cut_leg.Work.cut_legs.Goals as goal

pub loop-k-init : goal.loop-k-init
loop-k-init c = (omega arith, places_begin c.args.p c.args.self.now.v _ (omega arith))

pub returns-in_err-cut_leg_at : goal.returns-in_err-cut_leg_at
returns-in_err-cut_leg_at c =
    let p = err_from_is_err_and c.from_residual.result c.from_residual.ensures.1 in
    rw (p.1, p.2) (places_stop c.args.p _ _ c.loop-k.k _ c.loop-k.invariant.1 _ c.loop-k-test.true c.in_err-cut_leg_at.ensures.0)

pub loop-k-preserved : goal.loop-k-preserved
loop-k-preserved c = (
  omega (arith, c.in_ok-cut_leg_at.ensures.1),
  places_on c.args.p _ _ c.loop-k.k _ c.loop-k.invariant.1 _ c.loop-k-test.true c.in_ok-cut_leg_at.ensures.0,
)

pub returns : goal.returns
returns c = places_end c.args.p _ _ c.loop-k.k _ c.loop-k.invariant.1 c.loop-k-test.false
