-- `build_piece` builds the string that the vertices make, by whether their ends meet, and keeps the first of their numbers. Assumes nothing.
use mathlib.Core.Path.{sym, ap, ◌∙◌}
use lib.Ieee.{Float}
use mathlib.Core.List.{List}
use Rattle.arcstring.specs.Points.{points}
use Rattle.arcstring_build.specs.Build.{normalized_all, ends_meet}
use Rattle.arcstring_piece.proofs.inner.piece.BuiltPieces.{closed_piece, open_piece}
use Rattle.arcstring_piece.proofs.inner.piece.build_piece.Goals as goal

pub returns-then-ends_meet : goal.returns-then-ends_meet
returns-then-ends_meet c =
    let same = ap (λ (v : List Float). ends_meet (normalized_all (points v))) (sym c.vertices.ensures.0) in
    let whole = closed_piece c.args.string.v.now c.args.string.buoys.now _ _ _ _ c.args.string.as_many c.requires.0
    (same ∙ sym c.ends_meet.ensures ∙ c.if-ends_meet.true) (rw c.len-n.ensures at c.build_closed.ensures) (rw c.len-n.ensures at c.copy_items.ensures) in
    rw c.len-n.ensures (record { piece = whole.0; out_after = whole.1.0; out_buoys_after = whole.1.1 })

pub returns : goal.returns
returns c =
    let same = ap (λ (v : List Float). ends_meet (normalized_all (points v))) (sym c.vertices.ensures.0) in
    let whole = open_piece c.args.string.v.now c.args.string.buoys.now _ _ _ _ c.args.string.as_many c.requires.0
    (same ∙ sym c.ends_meet.ensures ∙ c.if-ends_meet.false) (rw c.len-n.ensures at c.build_open.ensures) (rw c.len-n.ensures at c.copy_items-2.ensures) in
    rw c.len-n.ensures (record { piece = whole.0; out_after = whole.1.0; out_buoys_after = whole.1.1 })
