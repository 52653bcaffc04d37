-- `read::feed` takes the bytes in turn: what is left of them, fed to the state that is held, gives the whole. Assumes nothing.
use mathlib.Core.Path.{◌∙◌}
use Rattle.textform.specs.Text.{step_with}
use Rattle.textform.specs.Kept.{keep}
use Rattle.textform.proofs.Turns.{fed-next, fed_all}
use Rattle.textform.proofs.inner.read.feed.Goals as goal

pub loop-byte-preserved : goal.loop-byte-preserved
loop-byte-preserved c =
    fed-next (step_with keep) _ _ c.loop-byte.byte-index _ _ c.loop-byte-test.true c.step-reader.ensures c.loop-byte.invariant

pub returns : goal.returns
returns c = fed_all (step_with keep) _ _ c.loop-byte.byte-index c.loop-byte-test.false ∙ c.loop-byte.invariant
