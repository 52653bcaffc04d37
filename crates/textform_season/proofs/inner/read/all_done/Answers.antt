-- `all_done` ends the last track, where there is one, by `Held`. Assumes nothing.
use mathlib.Core.Path.{sym}
use lib.Seq.{length-take-le}
use Rattle.textform_season.proofs.inner.read.Held.{none_done, last_done}
use native.Mathlib.Omega.{arith}
use Rattle.textform_season.proofs.inner.read.all_done.Goals as goal

pub returns-then-r-eq0 : goal.returns-then-r-eq0
returns-then-r-eq0 c =
    let whole = none_done c.args.r c.args.limit.now c.args.track.now c.args.out.now c.if-r-eq0.true c.args.r.tracks_within in
    record { out_after = whole.0; tracks_sound = whole.1 }

pub slice_bounds-end_track-end : goal.slice_bounds-end_track-end
slice_bounds-end_track-end c = sym (length-take-le _ _ (omega arith))

pub slice_bounds-end_track-end-2 : goal.slice_bounds-end_track-end-2
slice_bounds-end_track-end-2 c = sym (length-take-le _ _ (omega arith))

pub end_track-requires : goal.end_track-requires
end_track-requires c =
    let limit-most = length-take-le c.args.r.row.a c.args.limit.now (omega arith) in
    let track-most = length-take-le c.args.r.row.b c.args.track.now (omega arith) in
    record {
      le_n = (omega (arith, c.if-r-eq0.false), c.args.r.few, c.args.r.tracks_within);
      limit_len_bound = (omega arith, omega arith);
    }

pub returns : goal.returns
returns c =
    record {
      out_after = last_done c.args.r c.args.limit.now c.args.track.now c.args.out.now _ c.if-r-eq0.false c.end_track.ensures.out_after;
      tracks_sound = c.end_track.ensures.tracks_sound;
    }
