-- Splitting a string, as `split_arcstring_at_points` does it. Definitions only.
use Rattle.std.specs.Prelude.{Bool, List, map, ℕ, length, Float}
use Rattle.std.proofs.Math.Option.{Option, none, some}
use Rattle.arcstring_check.specs.Answer.{Answer, answered, unless_refused, first_of, and_then, flag_number}
use Rattle.arcstring.specs.declared.inner.vertex.Vertex.{Vertex}
use Rattle.arcstring.specs.Points.{numbered, place_of, StringOf, points}
use Rattle.arcstring.specs.Written.{points_in}
use Rattle.arcstring_check.specs.Check.{string_check, points_check, room_check, rooms_check}
use Rattle.arcstring_build.specs.Build.{built_numbered}
use Rattle.arcstring_split_leg.specs.SplitLeg.{unless_uncut}
use Rattle.arcstring_piece.specs.Cut.{cut_all}

-- what is written of pieces beside vertices, numbers and counts: 1 for a closed piece, 0 for an open one
abbrev pub piece_flags : {A : Type 0} → List (StringOf A) → List ℕ
piece_flags {A} ss = map (λ (s : StringOf A). flag_number s.closed) ss

-- ---- the call

-- 7 looks at all four buffers; uncut always fits
abbrev pub pieces_into : {A : Type 0} → ℕ → ℕ → ℕ → ℕ → Option (List (StringOf A)) → Answer (Option (List (StringOf A)))
pieces_into room buoy_room counts_room flags_room none = answered none
pieces_into room buoy_room counts_room flags_room (some ss) =
    unless_refused (first_of (rooms_check (points_in ss) room buoy_room) (first_of (room_check (length ss) counts_room) (room_check (length ss) flags_room)))
    (answered (some ss))

-- the checks of a split into four buffers, and what a split answers if none refuses
unfoldable pub split_into : {A : Type 0} → List Float → List ℕ → List Float → List ℕ → ℕ → ℕ → ℕ → ℕ → Answer (List (StringOf A))
    → Answer (Option (List (StringOf A)))
split_into {A} v buoys extra extra_buoys room buoy_room counts_room flags_room a =
    unless_refused (string_check v buoys)
    (unless_refused (points_check extra extra_buoys)
    (and_then a (λ (ss : List (StringOf A)). pieces_into room buoy_room counts_room flags_room (unless_uncut ss))))

-- The string is copied, as the Rust copies it: its near list is not looked at, so that none is handed in, and the copy's is its vertices.
abbrev pub numbered_copy : List Float → List ℕ → Bool → StringOf Vertex
numbered_copy v buoys closed = record { vertices = numbered (points v) buoys; near = points v; closed = closed }

-- a point cut at brings its own number into both pieces
unfoldable pub split_string : List Float → List ℕ → Bool → List Float → List ℕ → ℕ → ℕ → ℕ → ℕ → Answer (Option (List (StringOf Vertex)))
split_string v buoys closed extra extra_buoys room buoy_room counts_room flags_room =
    split_into v buoys extra extra_buoys room buoy_room counts_room flags_room
    (cut_all place_of built_numbered (numbered (points extra) extra_buoys) (numbered_copy v buoys closed))
