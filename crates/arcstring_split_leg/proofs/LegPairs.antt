-- Points taken two by two: how many legs, the one at a place, parts of them; and the points of a leg cut in place. Assumes nothing.
use mathlib.Core.Path.{◌≡◌, refl, sym, ap, ap₂, ◌∙◌}
use mathlib.Core.List.{List, [], ◌∷◌, ◌++◌, append_assoc}
use Prim.Native.Nat.{ℕ, zero, suc, ◌+◌, ◌-◌, ◌*◌, ◌≤◌, ◌<◌}
use native.Mathlib.Omega.{arith}
use lib.ListN.{length, get_or, take, drop, length-append}
use lib.Seq.{length-take-le, take-suc, take-nil, drop-nil, take_at, drop_at, take-append-add, get_or-take}
use lib.Ieee.{Float, nan}
use Rattle.sphericalpoint.specs.declared.SphericalPoint.{SphericalPoint}
use Rattle.arcstring.specs.Points.{points, point_at, no_point}
use Rattle.arcstring.specs.Splice.{splice}
use Rattle.arcstring.specs.Work.{first_of_list}
use Rattle.arcstring.specs.Leg.{Leg, leg}
use Rattle.arcstring.proofs.Flat.{points-append, point_at_lem}
use Rattle.arcstring.proofs.Firsts.{length-first_of_list}
use Rattle.arcstring_insert.specs.Insert.{insert_at}
use Rattle.arcstring_insert.proofs.Shifts.{floats}
use Rattle.arcstring_insert.proofs.Inserted.{take_first, drop_first, first_inserted}
use Rattle.arcstring_split_leg.specs.Legs.{legs_of}
use Rattle.arcstring_split_leg.specs.SplitLeg.{leg_points}

-- ---- points two by two

double : (k : ℕ) → 2 * suc k ≡ suc (suc (2 * k))
double k = omega arith

pub length-legs_of : (m : ℕ) (ps : List SphericalPoint) → length ps ≡ 2 * m → length (legs_of ps) ≡ m
unfolding legs_of
length-legs_of zero [] h = refl
length-legs_of (suc m) [] h = absurd (omega arith)
length-legs_of m (p ∷ []) h = absurd (omega arith)
length-legs_of zero (p ∷ q ∷ ps) h = absurd (omega arith)
length-legs_of (suc m) (p ∷ q ∷ ps) h = ap suc (length-legs_of m ps (omega arith))

pub leg_of-points : (k : ℕ) (ps : List SphericalPoint) (d : Leg) (e : SphericalPoint) → 2 * k + 1 < length ps
    → get_or (legs_of ps) k d ≡ leg (get_or ps (2 * k) e) (get_or ps (2 * k + 1) e)
unfolding legs_of
leg_of-points k [] d e h = absurd (omega arith)
leg_of-points k (p ∷ []) d e h = absurd (omega arith)
leg_of-points zero (p ∷ q ∷ ps) d e h = refl
leg_of-points (suc k) (p ∷ q ∷ ps) d e h =
    let f : 2 * suc k + 1 ≡ suc (suc (2 * k + 1)) = omega arith in
    rw (f, double k) (leg_of-points k ps d e (omega arith))

pub take-legs : (k : ℕ) (ps : List SphericalPoint) → legs_of (take (2 * k) ps) ≡ take k (legs_of ps)
unfolding legs_of
take-legs zero ps = refl
take-legs (suc k) [] = ap legs_of (take-nil (2 * suc k))
take-legs (suc k) (p ∷ []) = rw (double k)
take-legs (suc k) (p ∷ q ∷ ps) = rw (double k) (ap (λ (ls : List Leg). leg p q ∷ ls) (take-legs k ps))

pub drop-legs : (k : ℕ) (ps : List SphericalPoint) → legs_of (drop (2 * k) ps) ≡ drop k (legs_of ps)
unfolding legs_of
drop-legs zero ps = refl
drop-legs (suc k) [] = ap legs_of (drop-nil (2 * suc k))
drop-legs (suc k) (p ∷ []) = rw (double k)
drop-legs (suc k) (p ∷ q ∷ ps) = rw (double k) (drop-legs k ps)

pub legs-append : (m : ℕ) (ps qs : List SphericalPoint) → length ps ≡ 2 * m → legs_of (ps ++ qs) ≡ legs_of ps ++ legs_of qs
unfolding legs_of
legs-append m [] qs h = refl
legs-append m (p ∷ []) qs h = absurd (omega arith)
legs-append zero (p ∷ r ∷ ps) qs h = absurd (omega arith)
legs-append (suc m) (p ∷ r ∷ ps) qs h = ap (λ (ls : List Leg). leg p r ∷ ls) (legs-append m ps qs (omega arith))

-- legs to their points and back
pub points_of_legs : (m : ℕ) (ps : List SphericalPoint) → length ps ≡ 2 * m → leg_points (legs_of ps) ≡ ps
unfolding legs_of
points_of_legs m [] h = refl
points_of_legs m (p ∷ []) h = absurd (omega arith)
points_of_legs zero (p ∷ q ∷ ps) h = absurd (omega arith)
points_of_legs (suc m) (p ∷ q ∷ ps) h = ap (λ (rs : List SphericalPoint). p ∷ q ∷ rs) (points_of_legs m ps (omega arith))

-- ---- the legs that stand at the start of a list that is worked on

abbrev pub first_legs : ℕ → List Float → List Leg
first_legs m w = legs_of (first_of_list (2 * m) w)

pub length-legs_of_first : (m : ℕ) (w : List Float) → 6 * m ≤ length w → length (first_legs m w) ≡ m
length-legs_of_first m w room = length-legs_of m (first_of_list (2 * m) w) (length-first_of_list (2 * m) w (omega arith))

first_point : (w : List Float) (n j : ℕ) → j < n → 3 * n ≤ length w → get_or (first_of_list n w) j no_point ≡ point_at w j
unfolding first_of_list
first_point w n j h room =
    point_at_lem (take (3 * n) w) j no_point (omega (arith, length-take-le (3 * n) w room))
    ∙ (let same : (i : ℕ) → i < 3 * n → get_or (take (3 * n) w) i nan ≡ get_or w i nan = λ i l. get_or-take (3 * n) w i nan l in
    rw (same (3 * j) (omega arith), same (3 * j + 1) (omega arith), same (3 * j + 2) (omega arith)))

pub leg_of_first : (w : List Float) (m k : ℕ) (d : Leg) → k < m → 6 * m ≤ length w
    → get_or (first_legs m w) k d ≡ leg (point_at w (2 * k)) (point_at w (2 * k + 1))
leg_of_first w m k d h room =
    leg_of-points k (first_of_list (2 * m) w) d no_point (omega (arith, length-first_of_list (2 * m) w (omega arith)))
    ∙ ap₂ leg (first_point w (2 * m) (2 * k) (omega arith) (omega arith)) (first_point w (2 * m) (2 * k + 1) (omega arith) (omega arith))

-- ---- a leg cut in place

-- so much past the part
take_beyond_splice : {A : Type 0} (old : List A) (at : ℕ) (new : List A) (c : ℕ) → at ≤ length old
    → take (at + length new + c) (splice old at new) ≡ take at old ++ (new ++ take c (drop (at + length new) old))
unfolding splice
take_beyond_splice {A} old at new c h =
    let t : length (take at old ++ new) ≡ at + length new = length-append (take at old) new ∙ ap (λ (n : ℕ). n + length new) (length-take-le at old h) in
    rw (← append_assoc (take at old) new (drop (at + length new) old))
    (ap (λ (n : ℕ). take (n + c) ((take at old ++ new) ++ drop (at + length new) old)) (sym t)
    ∙ take-append-add (take at old ++ new) (drop (at + length new) old) c
    ∙ append_assoc (take at old) new (take c (drop (at + length new) old)))

-- a point written as point j of n
first_set : (w w' : List Float) (n j : ℕ) (p : SphericalPoint) → j < n → 3 * n ≤ length w → w' ≡ splice w (3 * j) (floats p)
    → first_of_list n w' ≡ take j (first_of_list n w) ++ (p ∷ drop (j + 1) (first_of_list n w))
unfolding first_of_list
first_set w w' n j p h room written =
    let e : 3 * n ≡ 3 * j + length (floats p) + 3 * (n - (j + 1)) = omega arith in
    let f : 3 * j + length (floats p) ≡ 3 * (j + 1) = omega arith in
    ap (λ (l : List Float). points (take (3 * n) l)) written
    ∙ ap (λ (c : ℕ). points (take c (splice w (3 * j) (floats p)))) e
    ∙ ap points (take_beyond_splice w (3 * j) (floats p) (3 * (n - (j + 1))) (omega arith))
    ∙ ap (λ (c : ℕ). points (take (3 * j) w ++ (floats p ++ take (3 * (n - (j + 1))) (drop c w)))) f
    ∙ points-append j (take (3 * j) w) (floats p ++ take (3 * (n - (j + 1))) (drop (3 * (j + 1)) w)) (length-take-le (3 * j) w (omega arith))
    ∙ ap₂ (λ (a b : List SphericalPoint). a ++ (p ∷ b)) (sym (take_first w n j (omega arith) room)) (sym (drop_first w n (j + 1) (omega arith) room))

-- a point put in between two lists
insert_between : (n : ℕ) (p : SphericalPoint) (xs ys : List SphericalPoint) → length xs ≡ n → insert_at n p (xs ++ ys) ≡ xs ++ (p ∷ ys)
unfolding insert_at
insert_between n p xs ys h = rw (take_at xs ys n h, drop_at xs ys n h)

-- the points of m legs, of which leg k is cut: point 2k + 1 is written over, and the point put in twice behind it
cut_points : (ps : List SphericalPoint) (k : ℕ) (p : SphericalPoint) → 2 * k + 1 < length ps
    → insert_at (2 * k + 2) p (insert_at (2 * k + 2) p (take (2 * k + 1) ps ++ (p ∷ drop (2 * k + 1 + 1) ps)))
    ≡ take (2 * k) ps ++ (get_or ps (2 * k) no_point ∷ p ∷ p ∷ p ∷ drop (2 * (k + 1)) ps)
cut_points ps k p h =
    let a = get_or ps (2 * k) no_point in
    let front = take (2 * k) ps in
    let rest = drop (2 * (k + 1)) ps in
    let xs = front ++ (a ∷ p ∷ []) in
    let lx : length xs ≡ 2 * k + 2 = length-append front (a ∷ p ∷ []) ∙ ap (λ (n : ℕ). n + 2) (length-take-le (2 * k) ps (omega arith)) in
    let e : 2 * k + 1 ≡ suc (2 * k) = omega arith in
    let f : 2 * k + 1 + 1 ≡ 2 * (k + 1) = omega arith in
    let t : take (2 * k + 1) ps ≡ front ++ (a ∷ []) = ap (λ (n : ℕ). take n ps) e ∙ take-suc ps (2 * k) no_point (omega arith) in
    let first : take (2 * k + 1) ps ++ (p ∷ drop (2 * k + 1 + 1) ps) ≡ xs ++ rest =
    ap₂ (λ (l : List SphericalPoint) (n : ℕ). l ++ (p ∷ drop n ps)) t f
    ∙ append_assoc front (a ∷ []) (p ∷ rest) ∙ sym (append_assoc front (a ∷ p ∷ []) rest) in
    ap (λ (l : List SphericalPoint). insert_at (2 * k + 2) p (insert_at (2 * k + 2) p l)) first
    ∙ ap (insert_at (2 * k + 2) p) (insert_between (2 * k + 2) p xs rest lx)
    ∙ insert_between (2 * k + 2) p xs (p ∷ rest) lx
    ∙ append_assoc front (a ∷ p ∷ []) (p ∷ p ∷ rest)

-- and taken two by two
cut_legs_of : (ps : List SphericalPoint) (k : ℕ) (p : SphericalPoint) (d : Leg) → 2 * k + 1 < length ps
    → legs_of (take (2 * k) ps ++ (get_or ps (2 * k) no_point ∷ p ∷ p ∷ p ∷ drop (2 * (k + 1)) ps))
    ≡ take k (legs_of ps) ++ (leg (get_or (legs_of ps) k d).from p ∷ leg p p ∷ drop (k + 1) (legs_of ps))
unfolding legs_of
cut_legs_of ps k p d h =
    let a : get_or ps (2 * k) no_point ≡ (get_or (legs_of ps) k d).from = sym (ap (λ (l : Leg). l.from) (leg_of-points k ps d no_point h)) in
    legs-append k (take (2 * k) ps) _ (length-take-le (2 * k) ps (omega arith))
    ∙ ap₂ (λ (l r : List Leg). l ++ (leg (get_or ps (2 * k) no_point) p ∷ leg p p ∷ r)) (take-legs k ps) (drop-legs (k + 1) ps)
    ∙ ap (λ (q : SphericalPoint). take k (legs_of ps) ++ (leg q p ∷ leg p p ∷ drop (k + 1) (legs_of ps))) a

-- w1 after the point is written, w2 and w3 after it is put in
pub first_cut : (w w1 w2 w3 : List Float) (m k : ℕ) (p : SphericalPoint) (d : Leg) → k < m → 6 * m + 6 ≤ length w
    → length w1 ≡ length w → length w2 ≡ length w1
    → w1 ≡ splice w (3 * (2 * k + 1)) (floats p)
    → w2 ≡ splice w1 (3 * (2 * k + 2)) (floats p ++ take (3 * (2 * m - (2 * k + 2))) (drop (3 * (2 * k + 2)) w1))
    → w3 ≡ splice w2 (3 * (2 * k + 2)) (floats p ++ take (3 * (2 * m + 1 - (2 * k + 2))) (drop (3 * (2 * k + 2)) w2))
    → first_legs (m + 1) w3
    ≡ take k (first_legs m w)
    ++ (leg (get_or (first_legs m w) k d).from p ∷ leg p p ∷ drop (k + 1) (first_legs m w))
first_cut w w1 w2 w3 m k p d h room l1 l2 written once twice =
    let ps = first_of_list (2 * m) w in
    let within : 2 * k + 1 < length ps = omega (arith, length-first_of_list (2 * m) w (omega arith)) in
    let e : 2 * (m + 1) ≡ 2 * m + 1 + 1 = omega arith in
    ap (λ (n : ℕ). legs_of (first_of_list n w3)) e
    ∙ ap legs_of (first_inserted w2 w3 (2 * m + 1) (2 * k + 2) p (omega arith) (omega arith) twice)
    ∙ ap (λ (qs : List SphericalPoint). legs_of (insert_at (2 * k + 2) p qs)) (first_inserted w1 w2 (2 * m) (2 * k + 2) p (omega arith) (omega arith) once)
    ∙ ap (λ (qs : List SphericalPoint). legs_of (insert_at (2 * k + 2) p (insert_at (2 * k + 2) p qs)))
    (first_set w w1 (2 * m) (2 * k + 1) p (omega arith) (omega arith) written)
    ∙ ap legs_of (cut_points ps k p within)
    ∙ cut_legs_of ps k p d within
