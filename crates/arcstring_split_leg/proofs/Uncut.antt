-- *Uncut*: fewer than two pieces are no cut; and what is made of each piece, of its vertices too. Assumes nothing.
use mathlib.Core.Path.{◌≡◌, refl, ap₂}
use mathlib.Core.List.{List, [], ◌∷◌, map}
use mathlib.Core.Option.{none, some}
use Prim.Native.Nat.{ℕ, ◌+◌, ◌≤◌, ◌<◌}
use native.Mathlib.Omega.{arith}
use lib.ListN.{length, length-map}
use Rattle.arcstring.specs.Points.{StringOf}
use Rattle.arcstring.specs.Written.{points_in}
use Rattle.arcstring_split_leg.specs.SplitLeg.{unless_uncut, each_piece}

pub one_uncut : {A : Type 0} (l : List A) → length l < 2 → unless_uncut l ≡ none
one_uncut [] h = refl
one_uncut (a ∷ []) h = refl
one_uncut (a ∷ b ∷ l) h = absurd (omega arith)

pub two_cut : {A : Type 0} (l : List A) → 2 ≤ length l → unless_uncut l ≡ some l
two_cut [] h = absurd (omega arith)
two_cut (a ∷ []) h = absurd (omega arith)
two_cut (a ∷ b ∷ l) h = refl

pub uncut_one : {A : Type 0} (l : List A) → unless_uncut l ≡ none → length l < 2
uncut_one [] h = omega arith
uncut_one (a ∷ []) h = omega arith
uncut_one (a ∷ b ∷ l) h = absurd (let z : ◌≡◌ {A = ℕ} 0 1 = cc in omega arith)

pub cut_two : {A : Type 0} (l m : List A) → unless_uncut l ≡ some m → (2 ≤ length l) × (l ≡ m)
cut_two [] m h = absurd (let z : ◌≡◌ {A = ℕ} 0 1 = cc in omega arith)
cut_two (a ∷ []) m h = absurd (let z : ◌≡◌ {A = ℕ} 0 1 = cc in omega arith)
cut_two (a ∷ b ∷ l) m h = (omega arith, cc)

-- ---- what is made of each piece

pub each_unless_uncut : {A B : Type 0} (f : A → B) (l : List A) → each_piece f (unless_uncut l) ≡ unless_uncut (map f l)
each_unless_uncut f [] = refl
each_unless_uncut f (a ∷ []) = refl
each_unless_uncut f (a ∷ b ∷ l) = refl

-- of each vertex; near list and flag stay
abbrev pub map_string : {A B : Type 0} → (A → B) → StringOf A → StringOf B
map_string f s = record { vertices = map f s.vertices; near = s.near; closed = s.closed }

pub same_count : {A B : Type 0} (f : A → B) (ss : List (StringOf A)) → points_in (map (map_string f) ss) ≡ points_in ss
same_count f [] = refl
same_count f (s ∷ ss) = ap₂ ◌+◌ (length-map s.vertices f) (same_count f ss)
