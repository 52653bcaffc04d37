-- `cut_at` walks over the pieces: what the mark makes of those from k on, behind those before, is the whole answer. Assumes nothing.
use mathlib.Core.Path.{refl}
use Prim.Native.Nat.{◌<◌}
use native.Mathlib.Omega.{arith}
use Rattle.arcstring_mark_cut.proofs.MarkCuts.{piece_room, next_start}
use Rattle.arcstring_mark_cut.proofs.MarkWalks.{walk_begin, walk_end, walk_on, walk_cuts, leg_inside}
use Rattle.arcstring_mark_cut.proofs.pieces.Opened.cut_at.Goals as goal

pub loop-k-init : goal.loop-k-init
loop-k-init c = (refl, refl, walk_begin c.args.self.now c.args.x)

pub overflow_mul-piece : goal.overflow_mul-piece
overflow_mul-piece c = omega (arith, piece_room c.loop-k.self c.loop-k.k (omega arith) _ c.loop-k.invariant.1)

pub overflow_add-end : goal.overflow_add-end
overflow_add-end c = omega (arith, piece_room c.loop-k.self c.loop-k.k (omega arith) _ c.loop-k.invariant.1)

pub overflow_mul-piece-in-loop-k : goal.overflow_mul-piece-in-loop-k
overflow_mul-piece-in-loop-k c = omega (arith, piece_room c.loop-k.self c.loop-k.k (omega arith) _ c.loop-k.invariant.1)

pub offset_bounds-self-at : goal.offset_bounds-self-at
offset_bounds-self-at c = omega (arith, piece_room c.loop-k.self c.loop-k.k (omega arith) _ c.loop-k.invariant.1)

pub slice_bounds-piece-end : goal.slice_bounds-piece-end
slice_bounds-piece-end c = omega (arith, piece_room c.loop-k.self c.loop-k.k (omega arith) _ c.loop-k.invariant.1)

pub overflow_sub-size : goal.overflow_sub-size
overflow_sub-size c = omega (arith, piece_room c.loop-k.self c.loop-k.k (omega arith) _ c.loop-k.invariant.1)

pub cut_piece-requires : goal.cut_piece-requires
cut_piece-requires c =
    let low : c.loop-k.k < c.loop-k.self.count = omega arith in (
      low,
      c.loop-k.invariant.1,
      leg_inside c.loop-k.self c.args.x c.loop-k.k _ c.loop-k.invariant.2 low _ _ c.loop-k.at refl c.loop-k.invariant.1 refl _ c.in-Some.ensures _ refl,
    )

pub returns-in-Some : goal.returns-in-Some
returns-in-Some c =
    walk_cuts c.loop-k.self c.args.x c.loop-k.k _ c.loop-k.invariant.2 (omega arith) _ _ c.loop-k.at refl c.loop-k.invariant.1 refl _ c.in-Some.ensures
    _ refl _ c.cut_piece.ensures

pub loop-k-preserved : goal.loop-k-preserved
loop-k-preserved c =
    let low : c.loop-k.k < c.loop-k.self.count = omega arith in (
      c.loop-k.invariant.0,
      next_start c.loop-k.self c.loop-k.k low c.loop-k.at c.loop-k.invariant.1,
      walk_on c.loop-k.self c.args.x c.loop-k.k _ c.loop-k.invariant.2 low _ _ c.loop-k.at refl c.loop-k.invariant.1 refl _ c.in_default.ensures refl,
    )

pub returns : goal.returns
returns c = walk_end c.loop-k.self c.args.x c.loop-k.k _ c.loop-k.invariant.2 (omega arith)
