-- Both halves of a cut, built one after the other: what stands in the lists then, and the room for it. Assumes nothing.
use mathlib.Core.Path.{◌≡◌, refl, sym, ap, ap₂, subst, ◌∙◌}
use mathlib.Core.Bool.{Bool}
use mathlib.Core.List.{List, [], ◌∷◌, ◌++◌}
use Prim.Native.Nat.{ℕ, ◌+◌, ◌-◌, ◌*◌, ◌≤◌}
use native.Mathlib.Omega.{arith}
use lib.Ieee.{Float}
use lib.ListN.{length, take, length-take, length-map}
use Rattle.arcstring.specs.declared.inner.vertex.Vertex.{Vertex}
use Rattle.arcstring.specs.Points.{numbered, place_of, places_of, buoys_of, points, flat}
use Rattle.arcstring_check.specs.Check.{most_points}
use Rattle.arcstring.proofs.Flat.{length-flat}
use Rattle.arcstring_build.specs.Build.{built_numbered}
use Rattle.arcstring_piece.specs.Pieces.{built_room}
use Rattle.arcstring_piece.proofs.inner.piece.TwoLists.{first_numbered, two_runs, into_part}
use Rattle.arcstring_piece.proofs.inner.piece.BuiltPieces.{Built}

-- points and numbers side by side again
together : (us : List Vertex) → numbered (points (flat (places_of us))) (buoys_of us) ≡ us
together [] = refl
together (u ∷ us) = ap (λ (vs : List Vertex). u ∷ vs) (together us)

both_first : (us vs : List Vertex) (m n : ℕ) (mid after part past rest : List Float) (mids afters parts pasts rests : List ℕ) → m ≡ length us → n ≡ length vs
    → mid ≡ flat (places_of us) ++ after → part ≡ flat (places_of vs) ++ past → mids ≡ buoys_of us ++ afters → parts ≡ buoys_of vs ++ pasts
    → take (m + n) (numbered (points (take (3 * m) mid ++ (part ++ rest))) (take m mids ++ (parts ++ rests))) ≡ us ++ vs
both_first us vs m n mid after part past rest mids afters parts pasts rests p q e f g h =
    let fs : (ws : List Vertex) (k : ℕ) → k ≡ length ws → length (flat (places_of ws)) ≡ 3 * k =
    λ ws k l. length-flat (places_of ws) ∙ omega (arith, length-map ws place_of) in
    let ns : (ws : List Vertex) (k : ℕ) → k ≡ length ws → length (buoys_of ws) ≡ k = λ ws k l. length-map ws (λ (x : Vertex). x.buoy) ∙ sym l in
    two_runs (flat (places_of us)) (flat (places_of vs)) (buoys_of us) (buoys_of vs) m n (fs us m p) (ns us m p) (fs vs n q) (ns vs n q) _ _ _ _
    (into_part mid part after past rest (flat (places_of us)) (flat (places_of vs)) (3 * m) (fs us m p) e f)
    (into_part mids parts afters pasts rests (buoys_of us) (buoys_of vs) m (ns us m p) g h)
    ∙ ap₂ (λ (a b : List Vertex). a ++ b) (together us) (together vs)

-- what stands then, from the two builds: i vertices of `v` with `bs` were read for the first, and j of `w` with `cs` for the second
pub halves_built : (v w : List Float) (bs cs : List ℕ) (i j : ℕ) (us ws : List Vertex) (m n : ℕ) (p q : Bool)
    (old mid base part rest : List Float) (olds mids bases parts rests : List ℕ)
    → take i (numbered (points v) bs) ≡ us → take j (numbered (points w) cs) ≡ ws → i ≤ most_points + 1 → j ≤ most_points + 1
    → Built (numbered (points (take (3 * i) v)) (take i bs)) (length (take i bs)) old olds m p mid mids
    → Built (numbered (points (take (3 * j) w)) (take j cs)) (length (take j cs)) base bases n q part parts
    → ((m ≡ length (built_numbered us).vertices) × (p ≡ (built_numbered us).closed) × (1 ≤ m))
    × (((n ≡ length (built_numbered ws).vertices) × (q ≡ (built_numbered ws).closed) × (1 ≤ n))
    × ((take (m + n) (numbered (points (take (3 * m) mid ++ (part ++ rest))) (take m mids ++ (parts ++ rests)))
    ≡ (built_numbered us).vertices ++ (built_numbered ws).vertices)
    × (m + n ≤ built_room)))
halves_built v w bs cs i j us ws m n p q old mid base part rest olds mids bases parts rests hi hj few more first second =
    let a = subst (λ (xs : List Vertex). Built xs (length (take i bs)) old olds m p mid mids) (first_numbered i v bs ∙ hi) first in
    let b = subst (λ (xs : List Vertex). Built xs (length (take j cs)) base bases n q part parts) (first_numbered j w cs ∙ hj) second in (
      (a.0.0, a.0.1, a.0.2),
      (
        (b.0.0, b.0.1, b.0.2),
        (
          both_first (built_numbered us).vertices (built_numbered ws).vertices m n mid _ part _ rest mids _ parts _ rests
              a.0.0 b.0.0 a.1.0 b.1.0 a.1.1 b.1.1,
          omega (arith, length-take i bs, length-take j cs),
        ),
      ),
    )
