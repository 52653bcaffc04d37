-- A row of pairs: counted as apart where no flag is set, else those flagged are walked and the others counted as apart. Assumes nothing.
use mathlib.Core.Path.{◌≡◌, sym, ap, ◌∙◌}
use Prim.Native.Nat.{ℕ, ◌-◌}
use native.Mathlib.Nat.{sub-zero}
use native.Mathlib.Omega.{arith}
use borrow.Author.Rules.{rules}
use lib.ListN.{length, replicate, take}
use lib.Seq.{length-take-le}
use Rattle.arcstring_pair.specs.declared.pair.Pair.TheVariants.{Apart}
use Rattle.arcstring_tally.specs.Tally.{tally_on}
use Rattle.arcstring_visit.proofs.Bounds.{row_in_string}
use Rattle.arcstring_visit.proofs.Sifted.{row_sifted, found_below, sifted_tally, sifted_room, sifted_written, sum_with_rest}
use Rattle.arcstring_visit.proofs.Walks.{row_apart, aparts_written}
use Rattle.arcstring_visit.proofs.inner.walk.walk_row.Goals as goal

pub returns-then-flag_row-eq0 : goal.returns-then-flag_row-eq0
returns-then-flag_row-eq0 g c =
    let n = c.args.b.legs.count - c.args.from in
    let e = row_apart _ _ _ _ c.args.b.legs.string.whole _ _ c.args.b.legs.within.0 (c.flag_row.ensures.all_apart c.if-flag_row-eq0.true) in
    record {
      value = c.add_apart.ensures ∙ ap (tally_on c.args.start) (ap (λ (m : ℕ). replicate m Apart) (sub-zero n) ∙ sym e);
      written = aparts_written g.K.Keep.laws _ _ _ n e;
    }

pub walk_found-requires : goal.walk_found-requires
walk_found-requires g c =
    let left = c.args.b.legs.count - c.args.from - c.gather-m.result in
    let long : length (take c.gather-m.result c.gather-m.new.found) ≡ c.gather-m.result = length-take-le _ _ (omega arith) in
    let r = row_sifted _ _ _ _ c.args.b.legs.string.whole _ _ c.args.b.legs.within.0 _ c.flag_row.ensures.flags_of _ _ long c.gather-m.ensures.all in (
      search rules,
      (
        rw long (sum_with_rest _ _ left c.gather-m.result _ c.add_apart-t.ensures
            (row_in_string c.gather-m.result _ _ _ c.gather-m.ensures.few.0 c.args.b.legs.within.0) c.requires.start_in_bounds),
        (found_below _ _ _ long c.gather-m.ensures.by_index, sifted_room r _ _ c.add_apart-t.ensures g.K.Keep.room _ c.requires.room),
      ),
    )

pub returns : goal.returns
returns g c =
    let left = c.args.b.legs.count - c.args.from - c.gather-m.result in
    let long : length (take c.gather-m.result c.gather-m.new.found) ≡ c.gather-m.result = length-take-le _ _ (omega arith) in
    let r = row_sifted _ _ _ _ c.args.b.legs.string.whole _ _ c.args.b.legs.within.0 _ c.flag_row.ensures.flags_of _ _ long c.gather-m.ensures.all in
    record {
      value = sifted_tally r _ _ _ c.add_apart-t.ensures c.walk_found.ensures.value;
      written = sifted_written r _ _ c.add_apart-t.ensures g.K.Keep.written _ _ c.walk_found.ensures.written;
    }
