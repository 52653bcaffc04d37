-- `count_text` prints the output of the definition for the bytes that it is given. Assumes nothing.
use Rattle.textform_count.proofs.inner.count.Outputs.{begun, whole_output}
use Rattle.textform_count.proofs.inner.count.count_text.Goals as goal

pub returns : goal.returns
returns c = (
  whole_output _ _ _ _ (begun c.begin.result c.begin.ensures.1 c.begin.ensures.2 _ _ c.begin.ensures.0) c.feed-r.ensures c.conclude.ensures.0,
  c.conclude.ensures.1,
)
