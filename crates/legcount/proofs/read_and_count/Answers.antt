-- `read_and_count` concludes what was read whole, by textform_count's `Pieces`. Assumes nothing.
use Rattle.textform_count.proofs.Pieces.{read_and_printed}
use Rattle.legcount.proofs.read_and_count.Goals as goal

pub returns : goal.returns
returns g c = (
  c.in_ok-reader.ensures.0,
  read_and_printed _ _ c.in_ok-reader.reader c.read_all.new.a c.read_all.new.b _ c.in_ok-reader.ensures.1 c.conclude.ensures.0,
  c.conclude.ensures.1,
)
