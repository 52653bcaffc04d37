-- `feed` takes the bytes in turn: what is left of them, fed to what is held, gives the whole. Assumes nothing.
use Rattle.std.proofs.Common.{◌≡◌, drop}
use Rattle.textform_season.specs.Kept.{kept_fed}
use Rattle.textform_season.specs.Held.{held_season}
use Rattle.textform_season.proofs.inner.read.feed.Given as goal

abbrev pub invariant-loop-byte : goal.invariant-loop-byte
invariant-loop-byte l =
    kept_fed (held_season l.reading l.limit l.track l.out) (drop l.byte-index l.bytes)
    ≡ kept_fed (held_season l.initial.reading l.initial.limit l.initial.track l.initial.out) l.bytes
