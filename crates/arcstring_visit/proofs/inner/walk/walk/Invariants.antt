-- The legs of one string against those of another, or of the same, counted, and what they keep kept. The loop's invariant: what is counted, with the
-- pairs still to be visited counted on, is the count of all pairs, and so of what is kept. Assumes nothing.
use mathlib.Core.Path.{◌≡◌}
use Prim.Native.Nat.{ℕ}
use Rattle.arcstring_tally.specs.Tally.{no_tally, tally_on}
use Rattle.arcstring_visit.specs.Visit.{visits_from}
use Rattle.arcstring_visit.proofs.Walks.{KeepsOn}
use Rattle.arcstring_visit.proofs.inner.walk.walk.Given as goal

abbrev pub invariant-loop-i : goal.invariant-loop-i
invariant-loop-i g l =
    let pairs = λ (i : ℕ). visits_from l.margin l.within l.a.string.v.now i l.a.count l.b.legs.string.v.now l.b.legs.count in
    record {
      counted : tally_on l.t (pairs l.i) ≡ tally_on no_tally (pairs 0);
      written : KeepsOn g.K.Keep.room g.K.Keep.written (pairs 0) 0 l.initial.keep (pairs l.i) l.t.kept l.keep;
    }
