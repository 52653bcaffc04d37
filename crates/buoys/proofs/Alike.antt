-- Strings alike but for the values of their numbers are answered alike by every call: each call without the numbers is the one over points, after checks
-- that look only at how many numbers there are. Assumes nothing.
use mathlib.Core.Path.{sym, ◌∙◌}
use Rattle.arcstring.proofs.WithoutBuoys.{lent_alike}
use Rattle.arcstring_walk.proofs.WalksWithout.{back_without, restart_without}
use Rattle.arcstring_build.proofs.BuildsWithout.{into_alike, build_without, flagged_without}
use Rattle.arcstring_simplify.proofs.SimplifiesWithout.{simplify_without}
use Rattle.arcstring_insert.proofs.InsertsWithout.{insert_alike}
use Rattle.arcstring_split.proofs.SplitsWithout.{split_alike}
use Rattle.arcstring_mark_cut.proofs.CutsWithout.{cut_alike}
use Rattle.buoys.specs.GeometryAlone.{GeometryAlone}

pub geometry_alone : GeometryAlone
geometry_alone =
    record {
      building = λ v bs cs room buoy_room same.
          build_without v bs room buoy_room ∙ into_alike v bs cs room buoy_room _ same ∙ sym (build_without v cs room buoy_room);
      building_flagged = λ v bs cs flag room buoy_room same.
          flagged_without v bs flag room buoy_room ∙ into_alike v bs cs room buoy_room _ same ∙ sym (flagged_without v cs flag room buoy_room);
      walking_back = λ v bs cs room buoy_room same.
          back_without v bs room buoy_room ∙ lent_alike v bs cs room buoy_room _ same ∙ sym (back_without v cs room buoy_room);
      restarting = λ v bs cs closed k room buoy_room same.
          restart_without v bs closed k room buoy_room ∙ lent_alike v bs cs room buoy_room _ same ∙ sym (restart_without v cs closed k room buoy_room);
      simplifying = λ v bs cs closed room buoy_room same.
          simplify_without v bs closed room buoy_room ∙ lent_alike v bs cs room buoy_room _ same ∙ sym (simplify_without v cs closed room buoy_room);
      inserting = insert_alike;
      splitting = split_alike;
      cutting_at_marks = cut_alike;
    }
