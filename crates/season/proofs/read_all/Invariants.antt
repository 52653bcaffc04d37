-- `read_all` holds what the reads gave, piece after piece, by textform_season's `Pieces`: after a read that gave some bytes there is one piece more. Assumes
-- nothing.
use Rattle.textform_season.specs.Pieces.{SeasonOfPieces}
use Rattle.season.proofs.read_all.Given as goal

abbrev pub invariant-loop-turn : goal.invariant-loop-turn
invariant-loop-turn g l = SeasonOfPieces (g.R.Read.remaining l.fn.stdin) (g.R.Read.remaining l.stdin) l.reading l.limit l.track l.out
