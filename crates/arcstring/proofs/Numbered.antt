-- Vertices with their numbers: what moves a list moves what is made of it, and what numbered points are without their numbers, and the numbers alone.
-- Assumes nothing.
use mathlib.Core.Path.{◌≡◌, refl, sym, ap, ap₂, ◌∙◌}
use mathlib.Core.Bool.{Bool, true, false}
use mathlib.Core.List.{List, [], ◌∷◌, ◌++◌, map, map-map, map-append, reverse, reverse-cons}
use Prim.Native.Nat.{ℕ, zero, suc, ◌+◌, ◌-◌, ◌*◌, ◌≤◌, ◌<◌}
use native.Mathlib.Omega.{arith}
use lib.Dec.{ltb}
use lib.ListN.{length, get_or, take, drop, length-map, length-append, length-drop, drop_of_length-le, replicate, length-replicate, get_or-append}
use lib.Seq.{length-take-le, take_all, drop-cons, get_or-take, get_or-drop, get_or-append-add}
use borrow.Author.Tests.{ltb-true, ltb-false}
use lib.Ieee.{Float}
use Rattle.sphericalpoint.specs.declared.SphericalPoint.{SphericalPoint}
use Rattle.arcstring.specs.declared.inner.vertex.Vertex.{Vertex}
use Rattle.arcstring.specs.Points.{numbered, place_of, places_of, buoys_of, points, point_at}
use Rattle.arcstring.specs.Positions.{Within, positions_from, vertex_at}
use Rattle.arcstring.specs.Splice.{splice}
use Rattle.arcstring.proofs.Flat.{points-next, points-append, length-points, take-points, drop-points}

-- ---- moved and made anew, or made anew and moved

module _ {A B : Type 0} (f : A → B) where
  pub map-take : (n : ℕ) (l : List A) → map f (take n l) ≡ take n (map f l)
  map-take zero l = refl
  map-take (suc n) [] = refl
  map-take (suc n) (x ∷ l) = ap (λ (m : List B). f x ∷ m) (map-take n l)

  pub map-drop : (n : ℕ) (l : List A) → map f (drop n l) ≡ drop n (map f l)
  map-drop zero l = refl
  map-drop (suc n) [] = refl
  map-drop (suc n) (x ∷ l) = map-drop n l

  pub map-reverse : (l : List A) → map f (reverse l) ≡ reverse (map f l)
  map-reverse [] = refl
  map-reverse (x ∷ l) =
      ap (map f) (reverse-cons x l) ∙ map-append f (reverse l) (x ∷ [])
      ∙ ap (λ (m : List B). m ++ (f x ∷ [])) (map-reverse l)
      ∙ sym (reverse-cons (f x) (map f l))

-- ---- points and numbers side by side

pub places_numbered : (ps : List SphericalPoint) (bs : List ℕ) → places_of (numbered ps bs) ≡ take (length bs) ps
places_numbered [] [] = refl
places_numbered [] (b ∷ bs) = refl
places_numbered (p ∷ ps) [] = refl
places_numbered (p ∷ ps) (b ∷ bs) = ap (λ (qs : List SphericalPoint). p ∷ qs) (places_numbered ps bs)

pub buoys_numbered : (ps : List SphericalPoint) (bs : List ℕ) → buoys_of (numbered ps bs) ≡ take (length ps) bs
buoys_numbered [] bs = refl
buoys_numbered (p ∷ ps) [] = refl
buoys_numbered (p ∷ ps) (b ∷ bs) = ap (λ (cs : List ℕ). b ∷ cs) (buoys_numbered ps bs)

-- as many of one as of the other
module _ (ps : List SphericalPoint) (bs : List ℕ) (same : length bs ≡ length ps) where
  pub all_places : places_of (numbered ps bs) ≡ ps
  all_places = places_numbered ps bs ∙ take_all (length bs) ps (omega arith)

  pub all_buoys : buoys_of (numbered ps bs) ≡ bs
  all_buoys = buoys_numbered ps bs ∙ take_all (length ps) bs (omega arith)

  pub length-numbered : length (numbered ps bs) ≡ length ps
  length-numbered = sym (length-map (numbered ps bs) (λ (x : Vertex). x.place)) ∙ ap length all_places

-- two lists moved alike are one list moved
pub numbered-append : (ps qs : List SphericalPoint) (bs cs : List ℕ) → length ps ≡ length bs → numbered (ps ++ qs) (bs ++ cs) ≡ numbered ps bs ++ numbered qs cs
numbered-append [] qs [] cs h = refl
numbered-append [] qs (b ∷ bs) cs h = absurd (omega arith)
numbered-append (p ∷ ps) qs [] cs h = absurd (omega arith)
numbered-append (p ∷ ps) qs (b ∷ bs) cs h = ap (λ (vs : List Vertex). record { place = p; buoy = b } ∷ vs) (numbered-append ps qs bs cs (omega arith))

pub numbered-take : (k : ℕ) (ps : List SphericalPoint) (bs : List ℕ) → numbered (take k ps) (take k bs) ≡ take k (numbered ps bs)
numbered-take zero ps bs = refl
numbered-take (suc k) [] bs = refl
numbered-take (suc k) (p ∷ ps) [] = refl
numbered-take (suc k) (p ∷ ps) (b ∷ bs) = ap (λ (vs : List Vertex). record { place = p; buoy = b } ∷ vs) (numbered-take k ps bs)

pub numbered-drop : (k : ℕ) (ps : List SphericalPoint) (bs : List ℕ) → numbered (drop k ps) (drop k bs) ≡ drop k (numbered ps bs)
numbered-drop zero ps bs = refl
numbered-drop (suc k) [] bs = refl
numbered-drop (suc k) (p ∷ ps) [] = none (drop k ps)
  where
    none : (qs : List SphericalPoint) → numbered qs [] ≡ []
    none [] = refl
    none (q ∷ qs) = refl
numbered-drop (suc k) (p ∷ ps) (b ∷ bs) = numbered-drop k ps bs

-- a part written over in both: the floats of the points, and the numbers
pub numbered-splice : (v w : List Float) (bs cs : List ℕ) (n at m : ℕ) → length v ≡ 3 * n → length bs ≡ n → length w ≡ 3 * m → length cs ≡ m → at + m ≤ n
    → numbered (points (splice v (3 * at) w)) (splice bs at cs) ≡ splice (numbered (points v) bs) at (numbered (points w) cs)
unfolding splice
numbered-splice v w bs cs n at m whole same new count room =
    let front : length (take (3 * at) v) ≡ 3 * at = length-take-le (3 * at) v (omega arith) in
    let p1 : points (take (3 * at) v ++ (w ++ drop (3 * at + length w) v)) ≡ points (take (3 * at) v) ++ points (w ++ drop (3 * at + length w) v) =
    points-append at (take (3 * at) v) (w ++ drop (3 * at + length w) v) front in
    let p2 : points (w ++ drop (3 * at + length w) v) ≡ points w ++ points (drop (3 * at + length w) v) = points-append m w (drop (3 * at + length w) v) new in
    let past : 3 * at + length w ≡ 3 * (at + m) = omega arith in
    let p3 : points (drop (3 * at + length w) v) ≡ drop (at + m) (points v) = ap (λ (k : ℕ). points (drop k v)) past ∙ drop-points (at + m) v in
    let c : at + length cs ≡ at + m = ap (λ (k : ℕ). at + k) count in
    let l : length (points w) ≡ length cs = length-points m w new ∙ sym count in
    let f : length (take at (points v)) ≡ length (take at bs) =
    length-take-le at (points v) (omega (arith, length-points n v whole)) ∙ sym (length-take-le at bs (omega arith)) in
    let long : length (numbered (points w) cs) ≡ m = length-numbered (points w) cs (sym l) ∙ length-points m w new in
    ap₂ numbered (p1 ∙ ap₂ (λ (a b : List SphericalPoint). a ++ b) (take-points at v) (p2 ∙ ap (λ (a : List SphericalPoint). points w ++ a) p3))
    (ap (λ (k : ℕ). take at bs ++ (cs ++ drop k bs)) c)
    ∙ numbered-append (take at (points v)) (points w ++ drop (at + m) (points v)) (take at bs) (cs ++ drop (at + m) bs) f
    ∙ ap₂ (λ (a b : List Vertex). a ++ b) (numbered-take at (points v) bs)
    (numbered-append (points w) (drop (at + m) (points v)) cs (drop (at + m) bs) l
    ∙ ap (λ (a : List Vertex). numbered (points w) cs ++ a) (numbered-drop (at + m) (points v) bs))
    ∙ ap (λ (k : ℕ). take at (numbered (points v) bs) ++ (numbered (points w) cs ++ drop k (numbered (points v) bs))) (ap (λ (k : ℕ). at + k) (sym long))

-- ---- positions, each for its vertex

-- of n vertices those from k on
positions_from_lem : (v : List Float) (bs : List ℕ) (n k m : ℕ) → length v ≡ 3 * n → length bs ≡ n → m + k ≡ n
    → map (vertex_at v bs) (positions_from k m) ≡ numbered (drop k (points v)) (drop k bs)
positions_from_lem v bs n k zero whole same e =
    let l : length (points v) ≤ k = omega (arith, length-points n v whole) in
    rw (drop_of_length-le (points v) l)
positions_from_lem v bs n k (suc m) whole same e =
    let j : k + 1 ≡ suc k = omega arith in
    ap (λ (vs : List Vertex). vertex_at v bs k ∷ vs) (positions_from_lem v bs n (suc k) m whole same (omega arith))
    ∙ sym (ap₂ numbered (points-next n v k whole (omega arith) ∙ ap (λ (i : ℕ). point_at v k ∷ drop i (points v)) j) (drop-cons bs k 0 (omega arith)))

pub all_positions : (v : List Float) (bs : List ℕ) (n : ℕ) → length v ≡ 3 * n → length bs ≡ n
    → map (vertex_at v bs) (positions_from 0 n) ≡ numbered (points v) bs
all_positions v bs n whole same = positions_from_lem v bs n 0 n whole same (omega arith)

-- and for its point
pub all_point_positions : (v : List Float) (n : ℕ) → length v ≡ 3 * n → map (point_at v) (positions_from 0 n) ≡ points v
all_point_positions v n whole =
    let none : ℕ = 0 in
    let bs = replicate n none in
    let same : length bs ≡ length (points v) = length-replicate n none ∙ sym (length-points n v whole) in
    sym (map-map place_of (vertex_at v bs) (positions_from 0 n))
    ∙ ap places_of (all_positions v bs n whole (length-replicate n none))
    ∙ all_places (points v) bs same

-- ---- positions that are within

pub within_positions : (k n : ℕ) → Within (k + n) (positions_from k n)
within_positions k zero i h = absurd (omega arith)
within_positions k (suc n) zero h = omega arith
within_positions k (suc n) (suc i) h = let e : suc k + n ≡ k + suc n = omega arith in rw (← e) (within_positions (suc k) n i (omega arith))

module _ (n k : ℕ) (xs : List ℕ) (all : Within n xs) (low : k < length xs) where
  -- with one less
  pub within_less : Within n (take k xs ++ drop (k + 1) xs)
  within_less i h = by_place (ltb i k) refl
    where
      t : length (take k xs) ≡ k
      t = length-take-le k xs (omega arith)

      by_place : (b : Bool) → ltb i k ≡ b → get_or (take k xs ++ drop (k + 1) xs) i 0 < n
      by_place true e =
          let l : i < k = ltb-true i k e in
          let g : get_or (take k xs ++ drop (k + 1) xs) i 0 ≡ get_or xs i 0 =
          get_or-append (take k xs) (drop (k + 1) xs) 0 i (omega (arith, t)) ∙ get_or-take k xs i 0 l in
          rw g (all i (omega arith))
      by_place false e =
          let l : k ≤ i = ltb-false i k e in
          let j : length (take k xs) + (i - k) ≡ i = omega (arith, t) in
          let m : k + 1 + (i - k) ≡ i + 1 = omega arith in
          let g : get_or (take k xs ++ drop (k + 1) xs) i 0 ≡ get_or xs (i + 1) 0 =
          ap (λ (x : ℕ). get_or (take k xs ++ drop (k + 1) xs) x 0) (sym j)
          ∙ get_or-append-add (take k xs) (drop (k + 1) xs) (i - k) 0
          ∙ get_or-drop (k + 1) xs (i - k) 0
          ∙ ap (λ (x : ℕ). get_or xs x 0) m in
          rw g (all (i + 1) (omega (arith, h, t, length-append (take k xs) (drop (k + 1) xs), length-drop (k + 1) xs)))
