-- `begin` holds nothing but the heading. Assumes nothing.
use native.Mathlib.Omega.{arith}
use Rattle.textform_count.proofs.inner.count.Outputs.{begun}
use Rattle.textform_season.specs.declared.inner.column.Column.TheVariants as C
use Rattle.textform_season.proofs.inner.read.begin.Goals as goal

pub invariant_of-result : goal.invariant_of-result
invariant_of-result c = record { column_within = tt; few = omega arith; tracks_within = c.no_tracks.ensures.1 }

pub returns : goal.returns
returns c limit track i =
    record {
      text = begun c.begin.result c.begin.ensures.1 c.begin.ensures.2 limit track c.begin.ensures.0 i;
      column = C.Empty;
      last = 0;
      done = c.no_tracks.ensures.0 i;
    }
