-- `end_track` counts a track, unless one before it was refused. Assumes nothing.
use Rattle.std.specs.Prelude.{Result}
use mathlib.Core.Path.{refl, subst}
use Prim.Native.Nat.{◌-◌}
use Rattle.std.proofs.lemmas.Result.{err_from_is_err_and}
use Rattle.arcstring_check.specs.declared.check.Refusal.{Refusal}
use Rattle.textform_season.specs.declared.inner.track.Lines.{Lines}
use Rattle.textform_season.specs.Kept.{TracksSound}
use Rattle.textform_season.proofs.inner.track.end_track.Goals as goal

pub count_track-requires : goal.count_track-requires
count_track-requires c =
    let sound = subst (λ (t : Result Lines Refusal). TracksSound t (c.args.n - 1)) c.in_ok-tracks.was c.requires.le_n.2 in
    record {
      le_n = (c.requires.le_n.0, c.requires.le_n.1, sound);
      limit_len_bound = c.requires.limit_len_bound;
    }

pub returns : goal.returns
returns c =
    record {
      out_after = rw c.in_ok-tracks.was c.count_track.ensures.out_after;
      tracks_sound = c.count_track.ensures.tracks_sound;
    }

pub returns-in_err-tracks : goal.returns-in_err-tracks
returns-in_err-tracks c =
    let p = err_from_is_err_and c.from_residual.result c.from_residual.ensures.1 in
    rw (p.1, p.2) record { out_after = rw c.in_err-tracks.was refl; tracks_sound = tt }
