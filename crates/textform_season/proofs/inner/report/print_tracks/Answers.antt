-- `print_tracks` puts the last line, or the first refusal. Assumes nothing.
use Rattle.std.specs.Prelude.{Result}
use mathlib.Core.Path.{sym, ap, ◌∙◌, subst}
use Rattle.textform_report.specs.Permille.{most_tracks}
use Rattle.textform_season.specs.Kept.{held_tracks, TracksSound, printed_report}
use native.Mathlib.Omega.{arith}
use Rattle.textform_season.proofs.inner.report.print_tracks.Goals as goal
use Rattle.arcstring_check.specs.declared.check.Refusal.{Refusal}
use Rattle.textform_season.specs.declared.inner.track.Lines.{Lines}

pub put_all-requires : goal.put_all-requires
put_all-requires c =
    let sound = subst (λ (t : Result Lines Refusal). TracksSound t most_tracks) c.in-Ok.is c.requires in
    (omega arith, omega arith)

pub returns-in-Ok : goal.returns-in-Ok
returns-in-Ok c =
    let sound = subst (λ (t : Result Lines Refusal). TracksSound t most_tracks) c.in-Ok.is c.requires in
    (c.put_all.ensures.1 ∙ sym (ap (λ (t : Result Lines Refusal). printed_report (held_tracks t c.args.out.now)) c.in-Ok.is), omega arith)

pub returns-in-Err : goal.returns-in-Err
returns-in-Err c =
    let text = rw c.from.ensures at c.print_refusal.ensures.0 in
    (text ∙ sym (ap (λ (t : Result Lines Refusal). printed_report (held_tracks t c.args.out.now)) c.in-Err.is), omega arith)
