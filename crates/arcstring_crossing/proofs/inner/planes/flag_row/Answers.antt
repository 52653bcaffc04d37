-- The flags of a leg's pairs, one after the other. Assumes nothing.
use native.Mathlib.Omega.{arith}
use borrow.Author.Rules.{rules}
use Rattle.arcstring_crossing.proofs.KeptPlanes.{aparts_next, aparts_none, aparts_to, flags_next, flags_none, flags_to}
use Rattle.arcstring_crossing.proofs.inner.planes.flag_row.Goals as goal

pub loop-k-init : goal.loop-k-init
loop-k-init g c =
    record { few = omega arith; as_long = search rules; all_apart = λ z. aparts_none _ _ _ _ _; flags_of = flags_none _ _ _ _ _ _ }

pub loop-k-preserved : goal.loop-k-preserved
loop-k-preserved g c =
    record {
      few = omega (arith, c.flag-f.ensures.0);
      as_long = search rules;
      all_apart = aparts_next _ _ _ _ _ _ _ _ c.loop-k.invariant.all_apart c.flag-f.ensures.1;
      flags_of = flags_next _ _ _ _ _ _ _ _ (omega arith) c.loop-k.invariant.flags_of c.flag-f.ensures.1;
    }

pub returns : goal.returns
returns g c =
    record {
      all_apart = λ z. aparts_to _ _ _ _ _ _ _ c.loop-k-test.false (c.loop-k.invariant.all_apart z);
      flags_of = flags_to _ _ _ _ _ _ _ _ c.loop-k-test.false c.loop-k.invariant.flags_of;
    }
