-- A leg against the legs at some positions, counted on, and what they keep kept. The loop's invariant: what is counted, with the pairs still to be
-- visited counted on, is the count of all pairs, and so of what is kept. Assumes nothing.
use mathlib.Core.Path.{◌≡◌}
use Prim.Native.Nat.{ℕ}
use lib.ListN.{length}
use Rattle.arcstring.specs.Leg.{leg_of}
use Rattle.arcstring_tally.specs.Tally.{tally_on}
use Rattle.arcstring_visit.specs.Visit.{found_pairs}
use Rattle.arcstring_visit.proofs.Walks.{KeepsOn}
use Rattle.arcstring_visit.proofs.inner.walk.walk_found.Given as goal

abbrev pub invariant-loop-k : goal.invariant-loop-k
invariant-loop-k g l =
    let pairs = λ (j : ℕ). found_pairs l.margin (leg_of l.a.arc) l.b.legs.string.v.now l.b.legs.string.n l.found j (length l.found) in
    record {
      counted : tally_on l.t (pairs l.k-index) ≡ tally_on l.fn.start (pairs 0);
      written : KeepsOn g.K.Keep.room g.K.Keep.written (pairs 0) l.fn.start.kept l.initial.keep (pairs l.k-index) l.t.kept l.keep;
    }
