-- `hold` copies the string to the start of the lists, and counts it as the one piece. Assumes nothing.
use mathlib.Core.Path.{◌≡◌, refl, ap, ◌∙◌}
use mathlib.Core.List.{[], ◌∷◌}
use native.Mathlib.Omega.{arith}
use lib.ListN.{take, set, length-set}
use lib.Seq.{take-suc-set}
use Rattle.arcstring_piece.specs.Pieces.{sum, all_some}
use Rattle.arcstring_piece.proofs.inner.replace.Sums.{some_cons}
use Rattle.arcstring_piece.proofs.inner.pieces.OnePiece.{one_piece}
use Rattle.arcstring_piece.proofs.inner.pieces.Pieces.hold.Goals as goal

pub returns : goal.returns
returns c =
    one_piece c.args.string.v.now c.args.string.buoys.now c.args.closed c.args.string.as_many _ _ c.copy_run.new.out _ c.copy_items.new.out _ _ c.len-n.ensures
    c.copy_run.ensures c.copy_items.ensures
    (take-suc-set c.args.self.now.counts 0 c.len-n.result (omega (arith, c.args.self.now.stands.counts-room)))
    (take-suc-set c.args.self.now.closed 0 c.args.closed (omega (arith, c.args.self.now.stands.flags-room)))

pub invariant_of-self : goal.invariant_of-self
invariant_of-self c =
    let old = c.args.self.now.stands in
    let first : take 1 (set c.args.self.now.counts 0 c.len-n.result) ≡ c.len-n.result ∷ [] =
    take-suc-set c.args.self.now.counts 0 c.len-n.result (omega (arith, old.counts-room)) in
    record {
      stands = record {
        floats = c.copy_run.auto.out ∙ old.floats;
        buoys_room = c.copy_items.auto.out ∙ old.buoys_room;
        counts-room = simp length-set old.counts-room;
        flags-room = simp length-set old.flags-room;
        pieces = omega arith;
        some = ap all_some first ∙ some_cons c.len-n.result [] (omega (arith, c.len-n.ensures)) refl;
        limit = rw (ap sum first) (omega (arith, c.len-n.ensures));
      };
    }
