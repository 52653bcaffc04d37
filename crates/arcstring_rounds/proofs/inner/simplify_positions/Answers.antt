-- `simplify_positions` works its rounds on all positions. Assumes nothing.
use mathlib.Core.Path.{◌≡◌, ◌∙◌}
use Prim.Native.Nat.{◌/◌}
use native.Mathlib.Omega.{arith}
use lib.ListN.{length, take}
use lib.Seq.{length-take-le}
use Rattle.arcstring.specs.Points.{point_at}
use Rattle.arcstring_rounds.proofs.Left.{fresh_within, fresh_rounds, held_front}
use Rattle.arcstring_rounds.proofs.inner.simplify_positions.Goals as goal

pub simplify_rounds-requires : goal.simplify_rounds-requires
simplify_rounds-requires c =
    let n : length (take (length c.args.v.now / 3) c.positions.new.at) ≡ length c.args.v.now / 3 = length-take-le _ c.positions.new.at (omega arith) in
    (fresh_within (length c.args.v.now / 3) _ _ c.positions.ensures, omega arith)

pub returns : goal.returns
returns c =
    let n : length (take (length c.args.v.now / 3) c.positions.new.at) ≡ length c.args.v.now / 3 = length-take-le _ c.positions.new.at (omega arith) in (
      held_front _ c.simplify_rounds.new.at _ (omega (arith, c.simplify_rounds.auto.at))
          ∙ fresh_rounds (length c.args.v.now / 3) _ _ c.positions.ensures (point_at c.args.v.now) c.args.closed _ c.simplify_rounds.ensures.0,
      omega arith,
    )
