-- `read::feed` takes the bytes in turn: what is left of them, fed to the state that is held, gives the whole. Assumes nothing.
use Rattle.std.proofs.Common.{◌≡◌, drop}
use Rattle.textform.specs.Text.{fed_with}
use Rattle.textform.specs.Kept.{keep}
use Rattle.textform.specs.Held.{held_state}
use Rattle.textform.proofs.inner.read.feed.Given as goal

abbrev pub invariant-loop-byte : goal.invariant-loop-byte
invariant-loop-byte l =
    fed_with keep (held_state l.reader l.a l.b) (drop l.byte-index l.bytes) ≡ fed_with keep (held_state l.initial.reader l.initial.a l.initial.b) l.bytes
