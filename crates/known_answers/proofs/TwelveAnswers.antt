-- The twelve known answers of docs/TERMS.md: the definitions give them, each computed. Assumes nothing.
use mathlib.Core.Path.{◌≡◌, refl}
use mathlib.Core.Bool.{true, false}
use mathlib.Core.List.{[], ◌∷◌, ◌++◌}
use mathlib.Core.Option.{none, some}
use lib.Ieee.{add, sub, mul, div, neg, lt, eq, le, round}
use Rattle.ieee754.specs.Size.{abs}
use Rattle.square_root.specs.Sqrt.{sqrt_of}
use Rattle.sphericalpoint.specs.Vector.{equality_tolerance, coplanar_tolerance, xyz_sub, xyz_mul, xyz_div, xyz_neg, xyz_abs, xyz_sum, xyz_dot}
use Rattle.sphericalpoint.specs.Vector.{xyz_cross, xyz_length, xyz_eq, normalized}
use Rattle.sphericalpoint.specs.Point.{normalized_unless_short}
use Rattle.sphericalpoint_coplanar.specs.Coplanar.{between_in_plane, xyzs_coplanar}
use Rattle.arcstring_check.specs.Check.{in_range, all_in_range, list_check, buoys_check, string_check, building_check, point_check}
use Rattle.arcstring_check.specs.Check.{room_check, rooms_check, into_rooms, lent}
use Rattle.arcstring_point.specs.Point.{coplanar_points}
use Rattle.arcstring_build.specs.Build.{ends_meet, built_vertices, built_string, built_numbered, build_into, build}
use Rattle.arcstring_check.specs.Answer.{refused, answered}
use Rattle.arcstring.specs.Points.{point}
use Rattle.arcstring_sides.specs.Sides.{grazes, is_above, is_below, sign_negative, sign_positive, some_side, every_side}
use Rattle.arcstring_pair.specs.Pair.{normal, meeting, side_from, side_to, side_values}
use Rattle.arcstring_pair.specs.Pair.{at_end, kept_or_dropped, grazing_outcome, end_or_clean, class_at, pair_of, arcs_crossing}
use Rattle.arcstring.specs.Leg.{leg_check}
use Rattle.arcstring_rounds.specs.Rounds.{third_position, unnecessary, unnecessary_from, unnecessary_positions, remove_at, remove_all}
use Rattle.arcstring_rounds.specs.Rounds.{is_simple, rounds, simplified}
use Rattle.arcstring_simplify.specs.Simplify.{simplify}
use Rattle.known_answers.specs.Twelve.{crossing, coplanar, building, simplifying, root, nought, unit, half, point_x, point_y, buoyed, crossings, coplanars}
use Rattle.known_answers.specs.Twelve.{buildings, simplifyings, roots, twelve, TwelveKnownAnswers}

known_crossings : crossings
    ≡ crossing (answered (record { class = 1; point = some (point unit nought nought); kept = true }))
    ∷ crossing (answered (record { class = 4; point = none; kept = false }))
    ∷ crossing (answered (record { class = 3; point = some (point half nought nought); kept = true }))
    ∷ crossing (answered (record { class = 3; point = some (point nought nought nought); kept = true }))
    ∷ []
unfolding arcs_crossing leg_check point_check in_range pair_of class_at end_or_clean grazing_outcome kept_or_dropped at_end every_side some_side sign_positive
    sign_negative is_below is_above grazes side_values side_to side_from meeting normal equality_tolerance xyz_sub xyz_mul xyz_neg xyz_abs xyz_sum xyz_dot
    xyz_cross xyz_eq abs add sub mul neg lt eq le round
known_crossings = refl

known_coplanars : coplanars ≡ coplanar (answered true) ∷ coplanar (answered false) ∷ coplanar (answered false) ∷ coplanar (answered false) ∷ []
unfolding coplanar_points point_check in_range xyzs_coplanar between_in_plane equality_tolerance coplanar_tolerance xyz_sub xyz_mul xyz_abs xyz_sum xyz_dot
    xyz_cross xyz_length xyz_eq sqrt_of abs add sub mul div neg lt eq le round
known_coplanars = refl

known_buildings : buildings ≡ building (answered (record { vertices = buoyed point_x 7 ∷ []; near = point_x ∷ []; closed = true })) ∷ building (refused 2) ∷ []
unfolding build build_into built_numbered built_string built_vertices ends_meet building_check buoys_check
    list_check all_in_range in_range rooms_check room_check normalized_unless_short normalized equality_tolerance
    xyz_sub xyz_mul xyz_div xyz_abs xyz_sum xyz_length xyz_eq sqrt_of abs add sub mul div lt eq le round
known_buildings = refl

known_simplifyings : simplifyings ≡ simplifying (answered (buoyed point_x 7 ∷ buoyed point_y 8 ∷ [])) ∷ simplifying (refused 5) ∷ []
unfolding simplify simplified rounds is_simple remove_all remove_at unnecessary_positions unnecessary_from unnecessary third_position
    lent into_rooms string_check buoys_check list_check all_in_range in_range rooms_check room_check built_string built_vertices ends_meet
    normalized_unless_short normalized xyzs_coplanar between_in_plane equality_tolerance coplanar_tolerance
    xyz_sub xyz_mul xyz_div xyz_abs xyz_sum xyz_dot xyz_cross xyz_length xyz_eq sqrt_of abs add sub mul div neg lt eq le round
known_simplifyings = refl

known_roots : roots ≡ root nought ∷ root half ∷ root unit ∷ []
unfolding sqrt_of
known_roots = refl

-- the whole list at once
pub twelve_known_answers : TwelveKnownAnswers
unfolding twelve
twelve_known_answers = λ i. known_crossings i ++ (known_coplanars i ++ (known_buildings i ++ (known_simplifyings i ++ known_roots i)))
