-- The positions of the flags that are set, one after the other. Assumes nothing.
use mathlib.Core.Path.{refl}
use Prim.Native.Nat.{◌<◌}
use native.Mathlib.Omega.{arith}
use lib.ListN.{length}
use Rattle.arcstring_crossing.proofs.Flagged.{gathered_on, gathered_below, gathered_place, gathered_all}
use borrow.Author.Rules.{rules}
use Rattle.arcstring_crossing.proofs.inner.planes.gather.Goals as goal

pub loop-k-init : goal.loop-k-init
loop-k-init g c = record { few = omega arith; fits = omega arith; as_long = search rules; all = refl; each = λ j h. absurd (omega arith) }

pub loop-k-preserved : goal.loop-k-preserved
loop-k-preserved g c =
    let place = gathered_place c.args.flags.now c.loop-k.k c.loop-k.n _ c.next_place-n.ensures in
    let room : c.loop-k.n < length c.loop-k.found = omega arith in
    record {
      few = omega (arith, place);
      fits = omega (arith, place);
      as_long = search rules;
      all = gathered_on c.args.flags.now c.args.to c.loop-k.k c.loop-k.n c.loop-k.found c.loop-k-test.true room _ _ c.next_place-n.ensures
          c.loop-k.invariant.all;
      each = gathered_below c.args.flags.now c.args.to c.loop-k.k c.loop-k.n c.loop-k.found c.loop-k-test.true room _ c.next_place-n.ensures
          c.loop-k.invariant.each;
    }

pub returns : goal.returns
returns g c =
    record {
      as_long = c.loop-k.invariant.as_long;
      few = (c.loop-k.invariant.fits, omega arith);
      all = gathered_all c.args.flags.now c.args.to c.loop-k.k c.loop-k.n c.loop-k.found _ c.loop-k-test.false c.loop-k.invariant.all;
      by_index = c.loop-k.invariant.each;
    }
