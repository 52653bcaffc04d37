-- A point and its mark are written at one place. Assumes nothing.
use native.Mathlib.Omega.{arith}
use Rattle.arcstring.proofs.Splices.{set-splice}
use Rattle.arcstring_tally.proofs.inner.tally.put_mark.Goals as goal

pub shape_of-points : goal.shape_of-points
shape_of-points c = c.put_vertex.auto.out

pub returns : goal.returns
returns c =
    record {
      points_after = c.put_vertex.ensures;
      marks_after = set-splice _ _ _ (omega (arith, c.requires));
    }
