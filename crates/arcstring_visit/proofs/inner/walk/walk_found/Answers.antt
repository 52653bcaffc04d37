-- A leg against the legs at some positions, counted on, and what they keep kept. Assumes nothing.
use mathlib.Core.Path.{◌≡◌, refl}
use mathlib.Core.List.{[], ◌∷◌, ◌++◌}
use Prim.Native.Nat.{ℕ, ◌+◌}
use native.Mathlib.Nat.{lt_of_le_of_lt, le_refl}
use lib.ListN.{length}
use borrow.Author.Rules.{rules}
use Rattle.arcstring.specs.Leg.{leg_of}
use Rattle.arcstring_visit.specs.Visit.{found_pairs}
use Rattle.arcstring_visit.proofs.Sifted.{found_next, found_none, found_few}
use Rattle.arcstring_tally.proofs.Tallies.{counted_on, counted_all, sum_so_far}
use Rattle.arcstring_visit.proofs.Walks.{walk_start, walk_room, walk_on, walk_done}
use Rattle.arcstring_visit.proofs.inner.walk.walk_found.Goals as goal

pub loop-k-init : goal.loop-k-init
loop-k-init g c = record { counted = refl; written = walk_start g.K.Keep.laws _ _ _ c.requires.room }

pub pair-p-requires : goal.pair-p-requires
pair-p-requires g c = (search rules, c.requires.found_in_bounds _ c.loop-k-test.true)

pub keep-requires : goal.keep-requires
keep-requires g c =
    let pairs = λ (j : ℕ). found_pairs c.args.margin (leg_of c.args.a.arc) c.args.b.legs.string.v.now c.args.b.legs.string.n c.args.found.now j
    (length c.args.found.now) in
    let next : pairs c.loop-k.k-index ≡ (c.pair-p.result ∷ []) ++ pairs (c.loop-k.k-index + 1) =
    found_next _ _ _ _ _ _ _ _ _ c.loop-k-test.true (le_refl _) refl c.pair-p.ensures in
    walk_room g.K.Keep.laws _ _ _ _ _ _ _ _ next c.loop-k.invariant.written

pub add-t-requires : goal.add-t-requires
add-t-requires g c =
    lt_of_le_of_lt
    (sum_so_far c.loop-k.t c.args.start _ _ (length c.args.found.now) c.loop-k.invariant.counted (found_few _ _ _ _ _ _ (le_refl _)))
    c.requires.start_in_bounds

pub loop-k-preserved : goal.loop-k-preserved
loop-k-preserved g c =
    let pairs = λ (j : ℕ). found_pairs c.args.margin (leg_of c.args.a.arc) c.args.b.legs.string.v.now c.args.b.legs.string.n c.args.found.now j
    (length c.args.found.now) in
    let next : pairs c.loop-k.k-index ≡ (c.pair-p.result ∷ []) ++ pairs (c.loop-k.k-index + 1) =
    found_next _ _ _ _ _ _ _ _ _ c.loop-k-test.true (le_refl _) refl c.pair-p.ensures in
    record {
      counted = counted_on _ _ _ _ _ _ next c.add-t.ensures c.loop-k.invariant.counted;
      written = walk_on g.K.Keep.laws _ _ _ _ _ _ _ _ _ _ next c.loop-k.invariant.written c.add-t.ensures c.keep.ensures;
    }

pub returns : goal.returns
returns g c =
    let none = found_none _ _ _ _ _ _ _ c.loop-k-test.false in
    record {
      value = counted_all _ _ _ none c.loop-k.invariant.counted;
      written = walk_done g.K.Keep.laws _ _ _ _ _ _ none c.loop-k.invariant.written;
    }
