-- Laws of vertices that are moved: one step of each loop that writes a vertex, and what the whole loops write. Assumes nothing.
use mathlib.Core.Path.{◌≡◌, refl, sym, ap, ◌∙◌}
use mathlib.Core.List.{List, [], ◌∷◌, ◌++◌, reverse, reverse-cons, map, map-append}
use Prim.Native.Nat.{ℕ, zero, suc, ◌+◌, ◌-◌, ◌*◌, ◌≤◌, ◌<◌}
use native.Mathlib.Omega.{arith}
use native.Mathlib.Numerals.{add-one}
use lib.ListN.{length, get_or, take, drop, set, length-append, length-drop, length-reverse, length-map}
use lib.Seq.{length-take-le, take_all, take_at, drop_at, take-suc, drop-cons, drop-length}
use lib.Ieee.{Float}
use Rattle.sphericalpoint.specs.declared.SphericalPoint.{SphericalPoint}
use Rattle.arcstring.specs.Points.{points, flat, point_at, no_point}
use Rattle.arcstring.specs.Positions.{positions_from}
use Rattle.arcstring.specs.Splice.{splice}
use Rattle.arcstring.proofs.Flat.{take_next, point_at_lem, point_at-drop, flat_append, length-flat, length-points, points-append}
use Rattle.arcstring.proofs.Splices.{spliced_next, splice_front, splice_nothing, drop_past_splice, push_next}

abbrev pub floats : SphericalPoint → List Float
floats p = p.x ∷ p.y ∷ p.z ∷ []

-- ---- the vertices backwards

-- one vertex more, from the end
last_next : {A : Type 0} (ps : List A) (d : A) (n i : ℕ) → length ps ≡ n → i < n
    → reverse (drop (n - (i + 1)) ps) ≡ reverse (drop (n - i) ps) ++ (get_or ps (n - 1 - i) d ∷ [])
last_next ps d n i h l =
    let e : n - (i + 1) ≡ n - 1 - i = omega arith in
    let e1 : n - i ≡ suc (n - 1 - i) = omega arith in
    rw (e, e1) (ap reverse (drop-cons ps (n - 1 - i) d (omega arith)) ∙ reverse-cons (get_or ps (n - 1 - i) d) (drop (suc (n - 1 - i)) ps))

pub reverse-step : (v : List Float) (n i : ℕ) (old out out' : List Float) (p : SphericalPoint) → length v ≡ 3 * n → i < n →
    out ≡ splice old 0 (flat (reverse (drop (n - i) (points v)))) → p ≡ point_at v (n - 1 - i) → out' ≡ splice out (3 * i) (floats p) →
    out' ≡ splice old 0 (flat (reverse (drop (n - (i + 1)) (points v))))
reverse-step v n i old out out' p whole in_List before read after =
    let done = reverse (drop (n - i) (points v)) in
    let w : length (flat done) ≡ 3 * i = length-flat done ∙ simp (length-reverse, length-drop, length-points n v whole) (omega arith) in
    let q : get_or (points v) (n - 1 - i) no_point ≡ p = point_at_lem v (n - 1 - i) no_point (omega arith) ∙ sym read in
    let more : flat (reverse (drop (n - (i + 1)) (points v))) ≡ flat done ++ floats p =
    ap flat (last_next (points v) no_point n i (length-points n v whole) in_List)
    ∙ flat_append done _
    ∙ ap (λ (r : SphericalPoint). flat done ++ flat (r ∷ [])) q in
    spliced_next old out out' 0 (flat done) (3 * i) (floats p) before after (omega arith) (omega arith) ∙ ap (splice old 0) (sym more)

-- before the first turn, and after the last
pub reverse_none : (v : List Float) (n : ℕ) (old : List Float) → length v ≡ 3 * n → old ≡ splice old 0 (flat (reverse (drop (n - 0) (points v))))
reverse_none v n old whole =
    let e : n - 0 ≡ length (points v) = omega (arith, length-points n v whole) in
    rw (e, drop-length (points v)) (sym (splice_nothing old 0))

pub reverse_all : (v : List Float) (n i : ℕ) (old out : List Float) → length v ≡ 3 * n → i ≡ n → out ≡ splice old 0 (flat (reverse (drop (n - i) (points v)))) →
    out ≡ flat (reverse (points v)) ++ drop (3 * n) old
reverse_all v n i old out whole end before =
    let e : n - i ≡ 0 = omega arith in
    let w : length (flat (reverse (points v))) ≡ 3 * n = length-flat (reverse (points v)) ∙ simp (length-reverse, length-points n v whole) in
    before ∙ ap (λ (k : ℕ). splice old 0 (flat (reverse (drop k (points v))))) e ∙ splice_front old (3 * n) (flat (reverse (points v))) w

-- ---- the points of a list changed one by one, into another list or in place

-- in place: the next point is still as it came
unchanged : (i : ℕ) (old out w : List Float) → length w ≡ 3 * i → out ≡ splice old 0 w → point_at out i ≡ point_at old i
unchanged i old out w h before =
    let e : 0 + length w + 0 ≡ 3 * i = omega arith in
    let same : drop (3 * i) out ≡ drop (3 * i) old = ap (drop (3 * i)) before ∙ (rw e at (drop_past_splice old 0 w 0 (omega arith))) in
    let k : i + 0 ≡ i = omega arith in
    rw k at (sym (point_at-drop out i 0) ∙ ap (λ (l : List Float). point_at l 0) same ∙ point_at-drop old i 0)

module _ (f : SphericalPoint → SphericalPoint) where
  pub length_mapped : (i : ℕ) (v : List Float) → 3 * i ≤ length v → length (flat (map f (points (take (3 * i) v)))) ≡ 3 * i
  length_mapped i v known =
      length-flat (map f (points (take (3 * i) v))) ∙ simp (length-map, length-points i (take (3 * i) v) (length-take-le (3 * i) v known))

  pub map-step : (v : List Float) (i : ℕ) (old out out' : List Float) (p : SphericalPoint) → 3 * i + 3 ≤ length v →
      out ≡ splice old 0 (flat (map f (points (take (3 * i) v)))) → p ≡ f (point_at v i) → out' ≡ splice out (3 * i) (floats p) →
      out' ≡ splice old 0 (flat (map f (points (take (3 * (i + 1)) v))))
  map-step v i old out out' p known before read after =
      let done = map f (points (take (3 * i) v)) in
      let w : length (flat done) ≡ 3 * i = length_mapped i v (omega arith) in
      let t : points (take (3 * (i + 1)) v) ≡ points (take (3 * i) v) ++ (point_at v i ∷ []) =
      ap points (take_next v i known) ∙ points-append i (take (3 * i) v) _ (length-take-le (3 * i) v (omega arith)) in
      let more : flat (map f (points (take (3 * (i + 1)) v))) ≡ flat done ++ floats p =
      ap (λ (ps : List SphericalPoint). flat (map f ps)) t
      ∙ ap flat (map-append f (points (take (3 * i) v)) _)
      ∙ flat_append done _
      ∙ ap (λ (r : SphericalPoint). flat done ++ flat (r ∷ [])) (sym read) in
      spliced_next old out out' 0 (flat done) (3 * i) (floats p) before after (omega arith) (omega arith) ∙ ap (splice old 0) (sym more)

  pub map-step-in_place : (i : ℕ) (old out out' : List Float) (p : SphericalPoint) → 3 * i + 3 ≤ length old →
      out ≡ splice old 0 (flat (map f (points (take (3 * i) old)))) → p ≡ f (point_at out i) → out' ≡ splice out (3 * i) (floats p) →
      out' ≡ splice old 0 (flat (map f (points (take (3 * (i + 1)) old))))
  map-step-in_place i old out out' p known before read after =
      let same : point_at out i ≡ point_at old i = unchanged i old out (flat (map f (points (take (3 * i) old)))) (length_mapped i old (omega arith)) before in
      map-step old i old out out' p known before (read ∙ ap f same) after

  pub map_all : (v : List Float) (n i : ℕ) (old out : List Float) → 3 * n ≤ length v → i ≡ n →
      out ≡ splice old 0 (flat (map f (points (take (3 * i) v)))) → out ≡ flat (map f (points (take (3 * n) v))) ++ drop (3 * n) old
  map_all v n i old out known end before =
      before ∙ ap (λ (k : ℕ). splice old 0 (flat (map f (points (take (3 * k) v))))) end ∙ splice_front old (3 * n) _ (length_mapped n v known)

  -- of a list whose first floats w have been written
  pub map_written : (m : ℕ) (old mid last w : List Float) → length w ≡ 3 * m → mid ≡ w ++ drop (3 * m) old
      → last ≡ flat (map f (points (take (3 * m) mid))) ++ drop (3 * m) mid →
      last ≡ flat (map f (points w)) ++ drop (3 * m) old
  map_written m old mid last w h before after =
      let t : take (3 * m) mid ≡ w = ap (take (3 * m)) before ∙ take_at w (drop (3 * m) old) (3 * m) h in
      let d : drop (3 * m) mid ≡ drop (3 * m) old = ap (drop (3 * m)) before ∙ drop_at w (drop (3 * m) old) (3 * m) h in
      after ∙ ap (λ (l : List Float). flat (map f (points l)) ++ drop (3 * m) mid) t ∙ ap (λ (l : List Float). flat (map f (points w)) ++ l) d

-- ---- items: two runs, one after the other

pub rotate_run : {A : Type 0} (xs : List A) (k : ℕ) (old mid last : List A) → k ≤ length xs → mid ≡ splice old 0 (take (length xs - k) (drop k xs))
    → last ≡ splice mid (length xs - k) (take k xs)
    → last ≡ (drop k xs ++ take k xs) ++ drop (length xs) old
rotate_run xs k old mid last within first second =
    let n = length xs in
    let d : length (drop k xs) ≡ n - k = length-drop k xs in
    let t : length (take k xs) ≡ k = length-take-le k xs within in
    let tail : take (n - k) (drop k xs) ≡ drop k xs = take_all (n - k) (drop k xs) (omega arith) in
    spliced_next old mid last 0 (drop k xs) (n - k) (take k xs) (first ∙ ap (splice old 0) tail) second (omega arith) (omega arith)
    ∙ splice_front old n (drop k xs ++ take k xs) (length-append (drop k xs) (take k xs) ∙ omega arith)

-- ---- what stands at positions, gathered

take-one_more : {A : Type 0} (d : A) (xs : List A) (i : ℕ) → i < length xs → take (i + 1) xs ≡ take i xs ++ (get_or xs i d ∷ [])
take-one_more d xs i h = rw add-one (take-suc xs i d h)

module _ {B : Type 0} (f : ℕ → B) (at : List ℕ) where
  one_more_lem : (i : ℕ) → i < length at → map f (take (i + 1) at) ≡ map f (take i at) ++ (f (get_or at i 0) ∷ [])
  one_more_lem i h = ap (map f) (take-one_more 0 at i h) ∙ map-append f (take i at) (get_or at i 0 ∷ [])

  gathered_length : (i : ℕ) → i ≤ length at → length (map f (take i at)) ≡ i
  gathered_length i h = length-map (take i at) f ∙ length-take-le i at h

  pub gather_step : (i : ℕ) (old out : List B) → i < length at → length at ≤ length old → out ≡ splice old 0 (map f (take i at))
      → set out i (f (get_or at i 0)) ≡ splice old 0 (map f (take (i + 1) at))
  gather_step i old out h room before =
      push_next old out (map f (take i at)) i (f (get_or at i 0)) before (gathered_length i (omega arith)) (omega arith)
      ∙ ap (splice old 0) (sym (one_more_lem i h))

  pub gather_all : (i : ℕ) (old out : List B) → i ≡ length at → out ≡ splice old 0 (map f (take i at)) → out ≡ map f at ++ drop (length at) old
  gather_all i old out end before =
      before ∙ ap (λ (l : List ℕ). splice old 0 (map f l)) (take_all i at (omega arith)) ∙ splice_front old (length at) (map f at) (length-map at f)

module _ (f : ℕ → SphericalPoint) (at : List ℕ) where
  pub gather_vertex : (i : ℕ) (old out out' : List Float) (p : SphericalPoint) → i < length at → out ≡ splice old 0 (flat (map f (take i at)))
      → p ≡ f (get_or at i 0)
      → out' ≡ splice out (3 * i) (floats p) → out' ≡ splice old 0 (flat (map f (take (i + 1) at)))
  gather_vertex i old out out' p h before read after =
      let done = map f (take i at) in
      let w : length (flat done) ≡ 3 * i = omega (arith, length-flat done, gathered_length f at i (omega arith)) in
      let more : flat (map f (take (i + 1) at)) ≡ flat done ++ floats p =
      ap flat (one_more_lem f at i h) ∙ flat_append done _ ∙ ap (λ (q : SphericalPoint). flat done ++ flat (q ∷ [])) (sym read) in
      spliced_next old out out' 0 (flat done) (3 * i) (floats p) before after (omega arith) (omega arith) ∙ ap (splice old 0) (sym more)

  pub gather_vertices : (i : ℕ) (old out : List Float) → i ≡ length at → out ≡ splice old 0 (flat (map f (take i at)))
      → out ≡ flat (map f at) ++ drop (3 * length at) old
  gather_vertices i old out end before =
      before ∙ ap (λ (l : List ℕ). splice old 0 (flat (map f l))) (take_all i at (omega arith))
      ∙ splice_front old (3 * length at) (flat (map f at)) (length-flat (map f at) ∙ ap (λ (n : ℕ). 3 * n) (length-map at f))

-- ---- positions written

positions_next : (k i : ℕ) → positions_from k (i + 1) ≡ positions_from k i ++ ((k + i) ∷ [])
positions_next k i = rw add-one (go k i)
  where
    go : (k i : ℕ) → positions_from k (suc i) ≡ positions_from k i ++ ((k + i) ∷ [])
    go k zero = let e : k + 0 ≡ k = omega arith in rw e
    go k (suc i) =
        let e : suc k + i ≡ k + suc i = omega arith in
        ap (λ (l : List ℕ). k ∷ l) (go (suc k) i ∙ ap (λ (j : ℕ). positions_from (suc k) i ++ (j ∷ [])) e)

pub length_positions : (k n : ℕ) → length (positions_from k n) ≡ n
length_positions k zero = refl
length_positions k (suc n) = ap suc (length_positions (suc k) n)

pub position-step : (i : ℕ) (old out : List ℕ) → i < length old → out ≡ splice old 0 (positions_from 0 i)
    → set out i i ≡ splice old 0 (positions_from 0 (i + 1))
position-step i old out h before =
    let e : 0 + i ≡ i = omega arith in
    push_next old out (positions_from 0 i) i i before (length_positions 0 i) h
    ∙ ap (splice old 0) (sym (positions_next 0 i ∙ ap (λ (j : ℕ). positions_from 0 i ++ (j ∷ [])) e))

pub positions_all : (n i : ℕ) (old out : List ℕ) → i ≡ n → out ≡ splice old 0 (positions_from 0 i) → out ≡ positions_from 0 n ++ drop n old
positions_all n i old out end before =
    before ∙ ap (λ (j : ℕ). splice old 0 (positions_from 0 j)) end
    ∙ splice_front old n (positions_from 0 n) (length_positions 0 n)
