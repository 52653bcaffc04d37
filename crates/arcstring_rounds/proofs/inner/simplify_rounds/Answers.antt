-- `simplify_rounds` works round by round: what is left after each has the answer of the whole. Assumes nothing.
use Rattle.std.proofs.lemmas.Result.{err_from_is_err_and}
use mathlib.Core.Path.{◌≡◌, sym}
use Prim.Native.Nat.{◌/◌}
use native.Mathlib.Omega.{arith}
use lib.ListN.{length, take}
use lib.Seq.{length-take-le}
use Rattle.arcstring.specs.Points.{point_at}
use Rattle.arcstring_rounds.proofs.inner.RoundSteps.{refused_round, last_round, next_round, copied_front, no_more_rounds, round_within}
use Rattle.arcstring_rounds.proofs.inner.simplify_rounds.Goals as goal

pub returns-in_err-kept : goal.returns-in_err-kept
returns-in_err-kept c =
    let p = err_from_is_err_and c.from_residual.result c.from_residual.ensures.1 in
    rw (p.1, p.2) (
      refused_round (point_at c.args.v.now) c.args.closed c.loop-m.m c.loop-m.at _ (omega arith) (omega arith) c.loop-m.invariant.1 _ c.in_err-kept.ensures.0,
      omega arith,
    )

pub returns-then-kept-m : goal.returns-then-kept-m
returns-then-kept-m c =
    let long : length (take c.loop-m.m c.loop-m.at) ≡ c.loop-m.m = length-take-le c.loop-m.m c.loop-m.at (omega arith) in (
      last_round (point_at c.args.v.now) c.args.closed c.loop-m.m c.loop-m.at _ (omega arith) (omega arith) c.loop-m.invariant.1
          c.round.new.next _ (omega (arith, c.in_ok-kept.ensures.1)) c.in_ok-kept.ensures.0 c.if-kept-m.true,
      omega arith,
    )

pub loop-m-preserved : goal.loop-m-preserved
loop-m-preserved c =
    let long : length (take c.loop-m.m c.loop-m.at) ≡ c.loop-m.m = length-take-le c.loop-m.m c.loop-m.at (omega arith) in
    let left = c.in_ok-kept.ensures.0 in
    let here = copied_front c.in_ok-kept.kept c.round.new.next c.loop-m.at c.copy_items.new.out (omega (arith, c.in_ok-kept.ensures.1))
    c.copy_items.ensures in (
      omega (arith, c.copy_items.auto.out, c.in_ok-kept.ensures.1),
      rw here
          (next_round (point_at c.args.v.now) c.args.closed c.loop-m.m c.loop-m.at _ (omega arith) (omega arith) c.loop-m.invariant.1
          c.round.new.next _ (omega (arith, c.in_ok-kept.ensures.1)) left c.if-kept-m.false),
      rw here (round_within (length c.args.v.now / 3) (point_at c.args.v.now) c.args.closed (take c.loop-m.m c.loop-m.at) _ (sym left) c.loop-m.invariant.2),
    )

pub returns : goal.returns
returns c = (
  no_more_rounds (point_at c.args.v.now) c.args.closed c.loop-m.m c.loop-m.at _ (omega arith) c.loop-m-test.false c.loop-m.invariant.1,
  omega arith,
)
