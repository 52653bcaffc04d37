-- `put_vertex` writes a point as one vertex: its three stores are one splice. Assumes nothing.
use Rattle.arcstring.proofs.Splices.{sets_splice}
use Rattle.arcstring.proofs.inner.vertex.put_vertex.Goals as goal

pub returns : goal.returns
returns c = sets_splice _ _ _ _ _ c.requires
