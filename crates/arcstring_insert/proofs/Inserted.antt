-- The first points of a list that is worked on, and the first vertices of two: some of them, and one put in among them. Assumes nothing.
use mathlib.Core.Path.{◌≡◌, sym, ap, ap₂, ◌∙◌}
use mathlib.Core.List.{List, ◌∷◌, ◌++◌}
use Prim.Native.Nat.{ℕ, ◌+◌, ◌-◌, ◌*◌, ◌≤◌, ◌<◌}
use native.Mathlib.Omega.{arith}
use lib.ListN.{length, take, drop, length-append, length-drop, take-append-drop}
use lib.Seq.{length-take-le, take-take, take_all}
use lib.Ieee.{Float}
use Rattle.sphericalpoint.specs.declared.SphericalPoint.{SphericalPoint}
use Rattle.arcstring.specs.declared.inner.vertex.Vertex.{Vertex}
use Rattle.arcstring.specs.Points.{numbered, places_of, buoys_of, points, flat}
use Rattle.arcstring.specs.Splice.{splice}
use Rattle.arcstring.specs.Work.{first_of_list}
use Rattle.arcstring.proofs.Flat.{flat-points, length-points, points-append, take-points, drop-points}
use Rattle.arcstring.proofs.Splices.{take_past_splice}
use Rattle.arcstring.proofs.Firsts.{first_points_lem, first_whole, first_copied, length-first_of_list}
use Rattle.arcstring.proofs.Numbered.{all_places, all_buoys, length-numbered, numbered-take, numbered-drop, numbered-splice}
use Rattle.arcstring_insert.specs.Insert.{insert_at}
use Rattle.arcstring_insert.proofs.Shifts.{floats, drop-take}

pub length_inserted : {A : Type 0} (k : ℕ) (p : A) (ps : List A) → length (insert_at k p ps) ≡ length ps + 1
unfolding insert_at
length_inserted k p ps =
    omega (arith, length-append (take k ps) (p ∷ drop k ps), length-append (take k ps) (drop k ps), ap length (take-append-drop k ps))

module _ (w : List Float) (n k : ℕ) (within : k ≤ n) (room : 3 * n ≤ length w) where
  pub take_first : take k (first_of_list n w) ≡ points (take (3 * k) w)
  unfolding first_of_list
  take_first = sym (take-points k (take (3 * n) w)) ∙ ap points (take-take (3 * k) (3 * n) w (omega arith))

  pub drop_first : drop k (first_of_list n w) ≡ points (take (3 * (n - k)) (drop (3 * k) w))
  unfolding first_of_list
  drop_first =
      let e : 3 * n ≡ 3 * k + 3 * (n - k) = omega arith in
      sym (drop-points k (take (3 * n) w))
      ∙ ap (λ (m : ℕ). points (drop (3 * k) (take m w))) e
      ∙ ap points (drop-take (3 * k) (3 * (n - k)) w)

-- a point written as vertex k of n, those from k on one place further
pub first_inserted : (w w' : List Float) (n k : ℕ) (p : SphericalPoint) → k ≤ n → 3 * n + 3 ≤ length w
    → w' ≡ splice w (3 * k) (floats p ++ take (3 * (n - k)) (drop (3 * k) w)) → first_of_list (n + 1) w' ≡ insert_at k p (first_of_list n w)
unfolding first_of_list insert_at
first_inserted w w' n k p within room written =
    let xs = take (3 * (n - k)) (drop (3 * k) w) in
    let lx : length xs ≡ 3 * (n - k) = length-take-le (3 * (n - k)) (drop (3 * k) w) (rw length-drop (omega arith)) in
    let e : 3 * (n + 1) ≡ 3 * k + length (floats p ++ xs) = omega (arith, length-append (floats p) xs) in
    ap (λ (l : List Float). points (take (3 * (n + 1)) l)) written
    ∙ ap (λ (m : ℕ). points (take m (splice w (3 * k) (floats p ++ xs)))) e
    ∙ ap points (take_past_splice w (3 * k) (floats p ++ xs) (omega arith))
    ∙ points-append k (take (3 * k) w) (floats p ++ xs) (length-take-le (3 * k) w (omega arith))
    ∙ ap₂ (λ (a b : List SphericalPoint). a ++ (p ∷ b)) (sym (take_first w n k within (omega arith))) (sym (drop_first w n k within (omega arith)))

-- their floats
pub first_floats : (w : List Float) (n : ℕ) → 3 * n ≤ length w → flat (first_of_list n w) ≡ take (3 * n) w
unfolding first_of_list
first_floats w n room = flat-points n (take (3 * n) w) (length-take-le (3 * n) w room)

-- ---- the first vertices: points in one list, their numbers in another

abbrev pub first_vertices : ℕ → List Float → List ℕ → List Vertex
first_vertices n w bs = take n (numbered (points w) bs)

module _ (n : ℕ) (w : List Float) (bs : List ℕ) (room : 3 * n ≤ length w) (many : n ≤ length bs) where
  side_by_side : first_vertices n w bs ≡ numbered (first_of_list n w) (take n bs)
  side_by_side = sym (numbered-take n (points w) bs) ∙ ap (λ (ps : List SphericalPoint). numbered ps (take n bs)) (sym (first_points_lem n w))

  as_many : length (take n bs) ≡ length (first_of_list n w)
  as_many = length-take-le n bs many ∙ sym (length-first_of_list n w room)

  pub places_first : places_of (first_vertices n w bs) ≡ first_of_list n w
  places_first = ap places_of side_by_side ∙ all_places (first_of_list n w) (take n bs) as_many

  pub buoys_first : buoys_of (first_vertices n w bs) ≡ take n bs
  buoys_first = ap buoys_of side_by_side ∙ all_buoys (first_of_list n w) (take n bs) as_many

  pub length_vertices : length (first_vertices n w bs) ≡ n
  length_vertices = ap length side_by_side ∙ length-numbered (first_of_list n w) (take n bs) as_many ∙ length-first_of_list n w room

-- both lists copied to the start of others
pub vertices_copied : (n : ℕ) (v blank w : List Float) (bs blanks cs : List ℕ)
    → length v ≡ 3 * n → length bs ≡ n → 3 * n ≤ length w → n ≤ length cs
    → w ≡ splice blank 0 (take (3 * n) v) → cs ≡ splice blanks 0 (take n bs) → first_vertices n w cs ≡ numbered (points v) bs
vertices_copied n v blank w bs blanks cs whole same room many copied alike =
    let all : take n bs ≡ bs = take_all n bs (omega arith) in
    let past : take (0 + length bs) (splice blanks 0 bs) ≡ bs = take_past_splice blanks 0 bs (omega arith) in
    let z : 0 + length bs ≡ n = omega arith in
    side_by_side n w cs room many
    ∙ ap₂ numbered (first_copied n v blank w (omega arith) copied ∙ first_whole n v whole)
    (ap (take n) (alike ∙ ap (splice blanks 0) all) ∙ ap (λ (m : ℕ). take m (splice blanks 0 bs)) (sym z) ∙ past)

-- an element written as the k-th of n, those from k on one place further
put_among : {A : Type 0} (l : List A) (n k : ℕ) (x : A) → k ≤ n → n ≤ length l
    → take (n + 1) (splice l k (x ∷ take (n - k) (drop k l))) ≡ insert_at k x (take n l)
unfolding insert_at
put_among {A} l n k x within room =
    let run = take (n - k) (drop k l) in
    let r : length run ≡ n - k = length-take-le (n - k) (drop k l) (rw length-drop (omega arith)) in
    let e : n + 1 ≡ k + length (x ∷ run) = omega arith in
    let f : k + (n - k) ≡ n = omega arith in
    ap (λ (m : ℕ). take m (splice l k (x ∷ run))) e
    ∙ take_past_splice l k (x ∷ run) (omega arith)
    ∙ ap₂ (λ (a b : List A). a ++ (x ∷ b)) (sym (take-take k n l within)) (sym (drop-take k (n - k) l) ∙ ap (λ (m : ℕ). drop k (take m l)) f)

-- a vertex written so, in lists that hold `size` of them
pub vertices_inserted : (w w' : List Float) (bs bs' : List ℕ) (size n k : ℕ) (x : Vertex)
    → length w ≡ 3 * size → length bs ≡ size → k ≤ n → n < size
    → w' ≡ splice w (3 * k) (floats x.place ++ take (3 * (n - k)) (drop (3 * k) w)) → bs' ≡ splice bs k (x.buoy ∷ take (n - k) (drop k bs))
    → first_vertices (n + 1) w' bs' ≡ insert_at k x (first_vertices n w bs)
vertices_inserted w w' bs bs' size n k x whole same within room written likewise =
    let l = numbered (points w) bs in
    let xs = take (3 * (n - k)) (drop (3 * k) w) in
    let cs = take (n - k) (drop k bs) in
    let lx : length xs ≡ 3 * (n - k) = length-take-le (3 * (n - k)) (drop (3 * k) w) (rw length-drop (omega arith)) in
    let lc : length cs ≡ n - k = length-take-le (n - k) (drop k bs) (rw length-drop (omega arith)) in
    let long : length l ≡ size = length-numbered (points w) bs (same ∙ sym (length-points size w whole)) ∙ length-points size w whole in
    let moved : numbered (points xs) cs ≡ take (n - k) (drop k l) =
    ap (λ (ps : List SphericalPoint). numbered ps cs) (take-points (n - k) (drop (3 * k) w) ∙ ap (take (n - k)) (drop-points k w))
    ∙ numbered-take (n - k) (drop k (points w)) (drop k bs)
    ∙ ap (take (n - k)) (numbered-drop k (points w) bs) in
    ap (take (n + 1))
    (ap₂ (λ (v : List Float) (ds : List ℕ). numbered (points v) ds) written likewise
    ∙ numbered-splice w (floats x.place ++ xs) bs (x.buoy ∷ cs) size k (n - k + 1) whole same
    (omega (arith, length-append (floats x.place) xs)) (omega arith) (omega arith)
    ∙ ap (λ (vs : List Vertex). splice l k (x ∷ vs)) moved)
    ∙ put_among l n k x within (omega arith)
