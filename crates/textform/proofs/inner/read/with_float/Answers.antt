-- `read::with_float` keeps a whole float for the string of its row, by `Reading`. Assumes nothing.
use Rattle.textform.proofs.inner.read.Reading.{next_sound, second_kept, first_kept}
use Rattle.textform.proofs.inner.read.with_float.Goals as goal

pub invariant_of-next : goal.invariant_of-next
invariant_of-next c = record { sound = next_sound c.args.r _ _ _ c.requires c.place_after.ensures c.args.r.sound.a_fits c.keep.ensures.1 }

pub returns-then-r : goal.returns-then-r
returns-then-r c =
    second_kept c.args.r _ _ c.keep.result c.args.a.now c.args.b.now c.place_after.ensures c.keep.new.list c.if-r.true c.keep.ensures.0

pub invariant_of-next-2 : goal.invariant_of-next-2
invariant_of-next-2 c = record { sound = next_sound c.args.r _ _ _ c.requires c.place_after.ensures c.keep-2.ensures.1 c.args.r.sound.b_fits }

pub returns : goal.returns
returns c =
    first_kept c.args.r _ _ c.keep-2.result c.args.a.now c.args.b.now c.place_after.ensures c.keep-2.new.list c.if-r.false c.keep-2.ensures.0
