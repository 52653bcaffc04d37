-- `read_all` holds what the reads gave, piece after piece, by textform_count's `Pieces`: after a read that gave some bytes there is one piece more. Assumes
-- nothing.
use Rattle.textform_count.specs.Pieces.{ReadInPieces}
use Rattle.legcount.proofs.read_all.Given as goal

abbrev pub invariant-loop-turn : goal.invariant-loop-turn
invariant-loop-turn g l = ReadInPieces (g.R.Read.remaining l.fn.stdin) (g.R.Read.remaining l.stdin) l.reader l.a l.b
