-- A flag is 0 only where the side values show that the pair is apart. Assumes nothing.
use native.Mathlib.Omega.{arith}
use mathlib.Core.Path.{◌∙◌}
use Rattle.arcstring_pair.proofs.Aparts.{shows_apart_lem}
use Rattle.arcstring_crossing.proofs.KeptPlanes.{read_class}
use Rattle.arcstring_crossing.proofs.inner.planes.Kept.flag.Goals as goal

pub returns-then-shows_apart : goal.returns-then-shows_apart
returns-then-shows_apart g c =
    let other = c.at-other.ensures ∙ c.args.self.known c.args.k c.requires in (
      omega arith,
      λ z. shows_apart_lem _ _ _ _ _ (c.shows_apart.ensures c.if-shows_apart.true)
          ∙ read_class _ _ _ _ _ _ _ c.args.a.known other c.xyz_cross-t.ensures c.side_values-s.ensures,
    )

pub returns-else-shows_apart : goal.returns-else-shows_apart
returns-else-shows_apart g c = (omega arith, λ z. absurd (omega arith))
