-- `unnecessary` judges the vertex at position k by the one before it and the third. Assumes nothing.
use Rattle.arcstring.specs.Points.{point_at}
use Rattle.arcstring_rounds.proofs.inner.Judgements.{judged}
use Rattle.arcstring_rounds.proofs.inner.Chosen.unnecessary.Goals as goal

pub returns : goal.returns
returns c =
    judged (point_at c.args.self.v.now) 0 c.args.self.at.now c.args.k _ _ _ _ _ c.requires.0 c.requires.1
    c.third_position-t.ensures.0 c.third_position-t.ensures.1 c.vertex_at-a.ensures c.vertex_at-b.ensures
    c.vertex_at-c.ensures c.coplanar_of.ensures
