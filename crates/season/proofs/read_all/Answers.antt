-- `read_all` holds what the reads gave, piece after piece, by textform_season's `Pieces`: after a read that gave some bytes there is one piece more. Assumes
-- nothing.
use native.Mathlib.Omega.{arith}
use Rattle.textform.specs.Kept.{keep}
use Rattle.textform.proofs.Pieces.{one_read, fed_more, nothing_more}
use Rattle.textform_season.specs.Season.{step_with}
use Rattle.textform_season.specs.Kept.{end_track, kept_start}
use Rattle.textform_season.proofs.Pieces.{no_pieces}
use Rattle.season.proofs.read_all.Goals as goal

pub loop-turn-init : goal.loop-turn-init
loop-turn-init g c =
    no_pieces _ c.begin-reading.result c.args.limit.now c.args.track.now _ (c.begin-reading.ensures _ _)

pub loop-turn-preserved : goal.loop-turn-preserved
loop-turn-preserved g c =
    fed_more (step_with end_track keep) kept_start _ _ _ _ _ _ c.loop-turn.invariant c.in_ok-n.ensures.fed
    (one_read c.in_ok-n.n c.read_some.new.bytes c.if-n-eq0.false (omega (arith, c.in_ok-n.ensures.bound, c.read_some.array_long)) c.read_some.array_long)
    c.in_ok-n.ensures.bytes.0

pub returns-then-n-eq0 : goal.returns-then-n-eq0
returns-then-n-eq0 g c = (
  c.in_ok-n.ensures.bytes.1 c.if-n-eq0.true (omega (arith, c.read_some.array_long)),
  nothing_more (step_with end_track keep) kept_start _ _ _ _ _ c.in_ok-n.n c.read_some.new.bytes c.loop-turn.invariant c.in_ok-n.ensures.fed
      c.if-n-eq0.true c.in_ok-n.ensures.bytes.0,
)
