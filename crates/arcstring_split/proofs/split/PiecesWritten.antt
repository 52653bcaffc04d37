-- What is written of pieces that stand one after another: their counts, flags, floats and numbers. Assumes nothing.
use mathlib.Core.Path.{◌≡◌, refl, sym, ap, ap₂, ◌∙◌}
use mathlib.Core.Bool.{Bool}
use mathlib.Core.List.{List, [], ◌∷◌, ◌++◌, map-append}
use Prim.Native.Nat.{ℕ, ◌+◌, ◌≤◌}
use native.Mathlib.Omega.{arith}
use lib.Ieee.{Float}
use lib.ListN.{length, take, drop, length-drop}
use lib.Seq.{length-take-le, take-add}
use Rattle.arcstring_check.specs.Answer.{flag_number}
use Rattle.arcstring.specs.declared.inner.vertex.Vertex.{Vertex}
use Rattle.arcstring.specs.Points.{flat, place_of, places_of, buoys_of}
use Rattle.arcstring.proofs.Flat.{flat_append}
use Rattle.arcstring_piece.specs.Pieces.{pieces_of, sum}
use Rattle.arcstring_split.specs.Handed.{flags_of}
use Rattle.arcstring.specs.Written.{piece_floats, piece_buoys, piece_counts}
use Rattle.arcstring_split.specs.Split.{piece_flags}

pub pieces_counts : (cs : List ℕ) (fs : List Bool) (vs : List Vertex) → length cs ≡ length fs → sum cs ≤ length vs → piece_counts (pieces_of cs fs vs) ≡ cs
unfolding pieces_of
pieces_counts [] fs vs h enough = refl
pieces_counts (c ∷ cs) [] vs h enough = absurd (omega arith)
pieces_counts (c ∷ cs) (f ∷ fs) vs h enough =
    ap₂ ◌∷◌ (length-take-le c vs (omega arith)) (pieces_counts cs fs (drop c vs) (omega arith) (rw length-drop (omega arith)))

pub pieces_flags : (cs : List ℕ) (fs : List Bool) (vs : List Vertex) → length cs ≡ length fs → piece_flags (pieces_of cs fs vs) ≡ flags_of fs
unfolding pieces_of
pieces_flags [] [] vs h = refl
pieces_flags [] (f ∷ fs) vs h = absurd (omega arith)
pieces_flags (c ∷ cs) [] vs h = absurd (omega arith)
pieces_flags (c ∷ cs) (f ∷ fs) vs h = ap (λ (l : List ℕ). flag_number f ∷ l) (pieces_flags cs fs (drop c vs) (omega arith))

pub pieces_floats : (cs : List ℕ) (fs : List Bool) (vs : List Vertex) → length cs ≡ length fs →
    piece_floats (pieces_of cs fs vs) ≡ flat (places_of (take (sum cs) vs))
unfolding pieces_of
pieces_floats [] fs vs h = refl
pieces_floats (c ∷ cs) [] vs h = absurd (omega arith)
pieces_floats (c ∷ cs) (f ∷ fs) vs h =
    ap (λ (v : List Float). flat (places_of (take c vs)) ++ v) (pieces_floats cs fs (drop c vs) (omega arith))
    ∙ sym (flat_append (places_of (take c vs)) (places_of (take (sum cs) (drop c vs))))
    ∙ ap flat (sym (map-append place_of (take c vs) (take (sum cs) (drop c vs))))
    ∙ ap (λ (ws : List Vertex). flat (places_of ws)) (sym (take-add c (sum cs) vs))

pub pieces_buoys : (cs : List ℕ) (fs : List Bool) (vs : List Vertex) → length cs ≡ length fs → piece_buoys (pieces_of cs fs vs) ≡ buoys_of (take (sum cs) vs)
unfolding pieces_of
pieces_buoys [] fs vs h = refl
pieces_buoys (c ∷ cs) [] vs h = absurd (omega arith)
pieces_buoys (c ∷ cs) (f ∷ fs) vs h =
    ap (λ (bs : List ℕ). buoys_of (take c vs) ++ bs) (pieces_buoys cs fs (drop c vs) (omega arith))
    ∙ sym (map-append (λ (x : Vertex). x.buoy) (take c vs) (take (sum cs) (drop c vs)))
    ∙ ap buoys_of (sym (take-add c (sum cs) vs))
