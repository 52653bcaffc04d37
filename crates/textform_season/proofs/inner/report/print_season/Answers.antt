-- `print_season` prints the limit's refusal, or what the tracks give. Assumes nothing.
use mathlib.Core.Path.{sym}
use lib.Seq.{length-take-le}
use Rattle.textform_count.proofs.inner.count.BuiltStrings.{build_refused, build_stands}
use Rattle.textform_season.proofs.inner.report.Reports.{more_tracks, limit_refused, limit_accepted}
use native.Mathlib.Omega.{arith}
use Rattle.textform_season.proofs.inner.report.print_season.Goals as goal

pub slice_bounds-build_plain-end : goal.slice_bounds-build_plain-end
slice_bounds-build_plain-end c = sym (length-take-le _ _ (omega arith))

pub build_plain-requires : goal.build_plain-requires
build_plain-requires c =
    let limit-most = length-take-le c.args.r.row.a c.args.limit.now (omega arith) in
    omega arith

pub print_tracks-requires : goal.print_tracks-requires
print_tracks-requires c = more_tracks c.all_done.result _ _ c.args.r.few c.all_done.ensures.tracks_sound

pub returns-in-Err : goal.returns-in-Err
returns-in-Err c =
    record {
      out_after = limit_refused _ _ _ c.in-Err.e (build_refused _ _ c.in-Err.ensures.result_value) (rw c.from.ensures at c.print_refusal.ensures.0);
      upper_bound = omega arith;
    }

pub returns-in-Ok : goal.returns-in-Ok
returns-in-Ok c =
    let built = c.in-Ok.field-0 in
    let accepted = (build_stands _ _ _ c.in-Ok.ensures.out_after built.0 built.1 c.in-Ok.ensures.result_value).accepted in
    record {
      out_after = limit_accepted _ _ _ _ c.all_done.ensures.out_after accepted c.print_tracks.ensures.0;
      upper_bound = c.print_tracks.ensures.1;
    }
