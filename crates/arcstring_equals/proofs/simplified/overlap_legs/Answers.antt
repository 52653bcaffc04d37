-- `overlap_legs` seeks a leg with both ends along the other string: what the legs from vertex k - 1 on answer is the whole answer. Assumes nothing.
use mathlib.Core.Path.{sym, ◌∙◌}
use native.Mathlib.Omega.{arith}
use Rattle.arcstring_equals.proofs.Overlaps.{of_vertices, start-not-along, both_along, end_not-along, closed_end, open_end}
use Rattle.arcstring_equals.proofs.simplified.overlap_legs.Goals as goal
use Rattle.arcstring_equals.proofs.simplified.overlap_legs.Goals.{else-along_string-via-then-along_string+else-along_string-2}
use Rattle.arcstring_equals.proofs.simplified.overlap_legs.Goals.{else-along_string-via-else-along_string}

pub loop-k-preserved : goal.loop-k-preserved
loop-k-preserved c =
    let s = c.vertices-string.result in
    elim c.else-along_string.branch [
      | else-along_string-via-then-along_string+else-along_string-2 w ↦
          end_not-along _ _ s.v.now _ s.whole c.loop-k.k _ _ c.loop-k.auto.k c.loop-k-test.true c.at.ensures c.along_string.ensures _ _
          w.at-then-along_string.ensures w.along_string-then-along_string.ensures w.if-along_string.true w.if-along_string-2.false
          ∙ c.loop-k.invariant
      | else-along_string-via-else-along_string w ↦
          start-not-along _ _ s.v.now _ s.whole c.loop-k.k _ _ c.loop-k.auto.k c.loop-k-test.true c.at.ensures c.along_string.ensures w.if-along_string.false
          ∙ c.loop-k.invariant
    ]

pub returns-then-along_string-2 : goal.returns-then-along_string-2
returns-then-along_string-2 c =
    let s = c.vertices-string.result in
    sym (both_along _ _ s.v.now _ s.whole c.loop-k.k _ _ c.loop-k.auto.k c.loop-k-test.true c.at.ensures c.along_string.ensures _ _
    c.at-then-along_string.ensures c.along_string-then-along_string.ensures c.if-along_string.true c.if-along_string-2.true)
    ∙ c.loop-k.invariant ∙ of_vertices _ _ c.vertices-string.ensures.0

pub returns-then-a : goal.returns-then-a
returns-then-a c =
    let s = c.vertices-string.result in
    sym (closed_end _ _ s.v.now _ s.whole c.loop-k.k (omega arith) (omega arith) c.if-a.true)
    ∙ c.loop-k.invariant ∙ of_vertices _ _ c.vertices-string.ensures.0

pub returns : goal.returns
returns c =
    let s = c.vertices-string.result in
    sym (open_end _ _ s.v.now _ s.whole c.loop-k.k (omega arith) (omega arith) c.if-a.false)
    ∙ c.loop-k.invariant ∙ of_vertices _ _ c.vertices-string.ensures.0
