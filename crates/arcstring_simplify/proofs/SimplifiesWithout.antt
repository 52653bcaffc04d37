-- Simplifying never depends on the numbers: without them it is simplifying over points, and what is written stands at positions that the points alone give.
-- Assumes nothing.
use mathlib.Core.Path.{refl, sym, ap, ◌∙◌}
use mathlib.Core.List.{map}
use Prim.Native.Nat.{◌/◌}
use lib.ListN.{length}
use Rattle.arcstring_check.specs.Answer.{map_answer}
use Rattle.arcstring.specs.Points.{itself, numbered, place_of, points, point_at}
use Rattle.arcstring.specs.Positions.{positions_from, vertex_at}
use Rattle.arcstring_check.proofs.Checks.{stored_whole, string-stored, as_many_buoys}
use Rattle.arcstring.proofs.WithoutBuoys.{map-lent, lent_where, lent_places}
use Rattle.arcstring_rounds.specs.Rounds.{simplified}
use Rattle.arcstring_simplify.specs.Simplify.{simplify}
use Rattle.arcstring_simplify.specs.BuoyLaws.{SimplifyWithout, SimplifyKeeps}
use Rattle.arcstring_rounds.proofs.Natural.{map-simplified, at_positions}

pub simplify_without : SimplifyWithout
unfolding simplify
simplify_without v bs closed room buoy_room =
    map-lent place_of v bs room buoy_room (simplified place_of closed (numbered (points v) bs))
    ∙ lent_where v bs room buoy_room _ _
    (λ h. map-simplified place_of place_of itself (λ x. refl) closed (numbered (points v) bs) ∙ ap (simplified itself closed) (lent_places v bs h))

pub simplify_keeps : SimplifyKeeps
unfolding simplify
simplify_keeps v bs closed room buoy_room =
    lent_where v bs room buoy_room (simplified place_of closed (numbered (points v) bs))
    (map_answer (map (vertex_at v bs)) (simplified (point_at v) closed (positions_from 0 (length v / 3))))
    (λ h. sym (at_positions v bs closed (stored_whole v (string-stored v bs h)).triples (as_many_buoys v bs h)))
