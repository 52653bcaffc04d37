-- `insert_numbered` puts the point in among the vertices, and the number among theirs: so the vertex among the vertices. Assumes nothing.
use mathlib.Core.Path.{refl}
use Rattle.arcstring_insert.proofs.Inserted.{vertices_inserted}
use Rattle.arcstring_insert.proofs.inner.insert_numbered.Goals as goal

pub returns : goal.returns
returns c =
    vertices_inserted c.args.work.now _ c.args.buoys.now _ _ c.args.n c.args.k c.args.x c.requires.0 refl c.requires.1 c.requires.2
    c.insert_vertex.ensures c.insert_buoy.ensures
