-- `read_all` holds what the reads gave, piece after piece, by textform_count's `Pieces`: after a read that gave some bytes there is one piece more. Assumes
-- nothing.
use native.Mathlib.Omega.{arith}
use Rattle.textform.proofs.Pieces.{one_read}
use Rattle.textform_count.proofs.Pieces.{no_pieces, one_more_lem, nothing_more}
use Rattle.legcount.proofs.read_all.Goals as goal

pub loop-turn-init : goal.loop-turn-init
loop-turn-init g c =
    let begun = c.begin-reader.ensures in
    no_pieces _ c.begin-reader.result c.args.a.now c.args.b.now begun.0 begun.1 begun.2

pub loop-turn-preserved : goal.loop-turn-preserved
loop-turn-preserved g c =
    one_more_lem _ _ _ c.loop-turn.reader c.read_some.new.reader c.loop-turn.a c.loop-turn.b _ _ _ c.loop-turn.invariant c.in_ok-n.ensures.fed
    (one_read c.in_ok-n.n c.read_some.new.bytes c.if-n-eq0.false (omega (arith, c.in_ok-n.ensures.bound, c.read_some.array_long)) c.read_some.array_long)
    c.in_ok-n.ensures.bytes.0

pub returns-then-n-eq0 : goal.returns-then-n-eq0
returns-then-n-eq0 g c = (
  c.in_ok-n.ensures.bytes.1 c.if-n-eq0.true (omega (arith, c.read_some.array_long)),
  nothing_more _ _ _ c.loop-turn.reader c.read_some.new.reader c.loop-turn.a c.loop-turn.b _ _ c.in_ok-n.n c.read_some.new.bytes c.loop-turn.invariant
      c.in_ok-n.ensures.fed c.if-n-eq0.true c.in_ok-n.ensures.bytes.0,
)
