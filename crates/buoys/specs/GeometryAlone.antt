-- Geometry never depends on the numbers: two strings alike but for the values of their numbers get the same answer, vertices, flag and near list from every
-- call. The calls that write no string are lent no numbers. Definitions only. The proof is `geometry_alone` of `proofs/Alike.antt`.
use Rattle.std.specs.Prelude.{◌≡◌, Bool, List, ℕ, length, Float}
use Rattle.arcstring_check.specs.Answer.{map_answer}
use Rattle.arcstring.specs.Points.{unnumbered}
use Rattle.arcstring_build.specs.Build.{build, build_flagged}
use Rattle.arcstring_walk.specs.Walk.{walk_back, restart}
use Rattle.arcstring.specs.Written.{without_buoys}
use Rattle.arcstring_simplify.specs.Simplify.{simplify}
use Rattle.arcstring_insert.specs.Insert.{insert_vertices}
use Rattle.arcstring_split.specs.Split.{split_string}
use Rattle.arcstring_split_leg.specs.SplitLeg.{each_piece}
use Rattle.arcstring_mark_cut.specs.CutAtMarks.{cut_at_marks}

-- The numbers may be anything: only how many there are is looked at. `unnumbered` keeps vertices, near list and flag; walked back, restarted, simplified and
-- with vertices inserted, a string keeps its near list and its flag, which are not handed in.
pub record GeometryAlone : Type 0 where
  pub building : (v : List Float) (bs cs : List ℕ) (room buoy_room : ℕ) → length bs ≡ length cs
      → map_answer unnumbered (build v bs room buoy_room) ≡ map_answer unnumbered (build v cs room buoy_room)
  pub building_flagged : (v : List Float) (bs cs : List ℕ) (flag : Bool) (room buoy_room : ℕ) → length bs ≡ length cs
      → map_answer unnumbered (build_flagged v bs flag room buoy_room) ≡ map_answer unnumbered (build_flagged v cs flag room buoy_room)
  pub walking_back : (v : List Float) (bs cs : List ℕ) (room buoy_room : ℕ) → length bs ≡ length cs
      → without_buoys (walk_back v bs room buoy_room) ≡ without_buoys (walk_back v cs room buoy_room)
  pub restarting : (v : List Float) (bs cs : List ℕ) (closed : Bool) (k room buoy_room : ℕ) → length bs ≡ length cs
      → without_buoys (restart v bs closed k room buoy_room) ≡ without_buoys (restart v cs closed k room buoy_room)
  pub simplifying : (v : List Float) (bs cs : List ℕ) (closed : Bool) (room buoy_room : ℕ) → length bs ≡ length cs
      → without_buoys (simplify v bs closed room buoy_room) ≡ without_buoys (simplify v cs closed room buoy_room)
  pub inserting : (v : List Float) (bs cs : List ℕ) (closed : Bool) (extra : List Float) (es fs : List ℕ) (room buoy_room : ℕ)
      → length bs ≡ length cs → length es ≡ length fs
      → without_buoys (insert_vertices v bs closed extra es room buoy_room) ≡ without_buoys (insert_vertices v cs closed extra fs room buoy_room)
  pub splitting : (v : List Float) (bs cs : List ℕ) (closed : Bool) (extra : List Float) (es fs : List ℕ) (room buoy_room counts_room flags_room : ℕ)
      → length bs ≡ length cs → length es ≡ length fs
      → map_answer (each_piece unnumbered) (split_string v bs closed extra es room buoy_room counts_room flags_room)
      ≡ map_answer (each_piece unnumbered) (split_string v cs closed extra fs room buoy_room counts_room flags_room)
  pub cutting_at_marks : (v : List Float) (bs cs : List ℕ) (closed : Bool) (extra : List Float) (es fs : List ℕ) (room buoy_room counts_room : ℕ)
      → length bs ≡ length cs → length es ≡ length fs
      → map_answer (each_piece unnumbered) (cut_at_marks v bs closed extra es room buoy_room counts_room)
      ≡ map_answer (each_piece unnumbered) (cut_at_marks v cs closed extra fs room buoy_room counts_room)
