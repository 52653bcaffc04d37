-- Pieces as open strings: how many points they have together, and what is written of those that stand one after another. Assumes nothing.
use mathlib.Core.Path.{◌≡◌, refl, sym, ap, ◌∙◌}
use mathlib.Core.List.{List, [], ◌∷◌, ◌++◌, map, map-append}
use Prim.Native.Nat.{ℕ, ◌+◌}
use lib.Ieee.{Float}
use lib.ListN.{length, take, drop}
use lib.Seq.{take-add}
use Rattle.arcstring.specs.declared.inner.vertex.Vertex.{Vertex}
use Rattle.arcstring.specs.Points.{StringOf, place_of, places_of, buoys_of, flat}
use Rattle.arcstring.specs.Written.{points_in, piece_floats, piece_buoys, piece_counts}
use Rattle.arcstring.proofs.Flat.{flat_append}
use Rattle.arcstring_piece.specs.Pieces.{sum}
use Rattle.arcstring_mark_cut.specs.CutAtMarks.{together, open_string}
use Rattle.arcstring_mark_cut.specs.Standing.{in_pieces}

abbrev pub strings : List (List Vertex) → List (StringOf Vertex)
strings xss = map (open_string place_of) xss

pub floats_of : (cs : List ℕ) (vs : List Vertex) → piece_floats (strings (in_pieces cs vs)) ≡ flat (places_of (take (sum cs) vs))
unfolding in_pieces
floats_of [] vs = refl
floats_of (c ∷ cs) vs =
    ap (λ (v : List Float). flat (places_of (take c vs)) ++ v) (floats_of cs (drop c vs))
    ∙ sym (flat_append (places_of (take c vs)) (places_of (take (sum cs) (drop c vs))))
    ∙ ap flat (sym (map-append place_of (take c vs) (take (sum cs) (drop c vs))))
    ∙ ap (λ (ws : List Vertex). flat (places_of ws)) (sym (take-add c (sum cs) vs))

pub buoys_of_lem : (cs : List ℕ) (vs : List Vertex) → piece_buoys (strings (in_pieces cs vs)) ≡ buoys_of (take (sum cs) vs)
unfolding in_pieces
buoys_of_lem [] vs = refl
buoys_of_lem (c ∷ cs) vs =
    ap (λ (bs : List ℕ). buoys_of (take c vs) ++ bs) (buoys_of_lem cs (drop c vs))
    ∙ sym (map-append (λ (x : Vertex). x.buoy) (take c vs) (take (sum cs) (drop c vs)))
    ∙ ap buoys_of (sym (take-add c (sum cs) vs))

pub counts_of_lem : (xss : List (List Vertex)) → piece_counts (strings xss) ≡ map length xss
counts_of_lem [] = refl
counts_of_lem (xs ∷ xss) = ap (λ (l : List ℕ). length xs ∷ l) (counts_of_lem xss)

pub points-together : (xss : List (List Vertex)) → points_in (strings xss) ≡ together xss
points-together [] = refl
points-together (xs ∷ xss) = ap (λ (n : ℕ). length xs + n) (points-together xss)
