-- `replace_item` moves the items after place k one place further, and puts two in the place of one. Assumes nothing.
use Rattle.arcstring_piece.proofs.inner.replace.Replaced.{two_put}
use Rattle.arcstring_piece.proofs.inner.replace.replace_item.Goals as goal

pub returns : goal.returns
returns g c = two_put c.args.list.now c.move_on.new.list c.args.m c.args.k c.args.first c.args.second c.requires.0 c.requires.1
    c.move_on.auto.list c.move_on.ensures
