-- The class of a pair of legs, the second read from the planes that are kept. Assumes nothing.
use mathlib.Core.Path.{ap, ◌∙◌}
use Rattle.arcstring.specs.Leg.{Leg, leg_of}
use Rattle.arcstring_pair.specs.Pair.{class_at}
use Rattle.arcstring_crossing.proofs.KeptPlanes.{read_class}
use Rattle.arcstring_crossing.proofs.inner.planes.pair_at.Goals as goal

pub returns : goal.returns
returns g c =
    let a = leg_of c.args.a.arc in
    let other = c.at-other.ensures ∙ c.requires.2 in
    c.class_at.ensures ∙ ap (λ (l : Leg). class_at c.args.margin c.xyz_cross-t.result a l c.side_values-s.result) c.leg_at.ensures
    ∙ read_class _ a _ _ _ _ _ c.args.a.known other c.xyz_cross-t.ensures c.side_values-s.ensures
