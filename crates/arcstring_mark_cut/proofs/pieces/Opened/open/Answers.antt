-- `open` leaves the opened string as the one piece that stands in the lists. Assumes nothing.
use native.Mathlib.Omega.{arith}
use lib.Seq.{take-suc-set}
use Rattle.arcstring_mark_cut.proofs.CutStrings.{one_piece}
use Rattle.arcstring_mark_cut.proofs.pieces.Opened.open.Goals as goal

pub returns : goal.returns
returns c =
    one_piece _ c.copy_opened-points.new.v c.copy_opened-points.new.buoys _
    (take-suc-set c.args.self.now.counts 0 c.copy_opened-points.result (omega (arith, c.args.self.now.stands.counts-room)))
    _ c.copy_opened-points.ensures.0
