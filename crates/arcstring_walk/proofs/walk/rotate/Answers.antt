-- `rotate` copies two runs, one after the other. Assumes nothing.
use Rattle.arcstring.proofs.Moves.{rotate_run}
use Rattle.arcstring_walk.proofs.walk.rotate.Goals as goal

pub returns : goal.returns
returns g c = rotate_run c.args.list.now c.args.k _ _ _ c.requires.0 c.copy_items.ensures c.copy_items-2.ensures
