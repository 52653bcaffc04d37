-- `at_piece_end` tests the mark against the first and the last vertex of the run. Assumes nothing.
use Rattle.arcstring_mark_cut.proofs.PieceEnds.{ends_tested}
use Rattle.arcstring_mark_cut.proofs.pieces.at_piece_end.Goals as goal

pub returns : goal.returns
returns c =
    ends_tested c.args.v.now c.args.at c.args.n c.requires.0 c.requires.1 c.args.p _ _ _ _
    c.vertex_at.ensures c.vertex_at-2.ensures c.xyz_eq.ensures c.xyz_eq-2.ensures
