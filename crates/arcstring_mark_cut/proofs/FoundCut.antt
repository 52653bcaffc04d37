-- Where a mark cuts pieces: one of them, at a leg that it has. Assumes nothing.
use mathlib.Core.Path.{◌≡◌, refl, ap, ◌∙◌}
use mathlib.Core.Bool.{Bool, true, false}
use mathlib.Core.List.{List, [], ◌∷◌, ◌++◌, map}
use mathlib.Core.Option.{Option, none, some}
use Prim.Native.Nat.{ℕ, suc, ◌+◌, ◌<◌}
use native.Mathlib.Omega.{arith}
use lib.ListN.{length, length-map}
use Rattle.sphericalpoint.specs.declared.SphericalPoint.{SphericalPoint}
use Rattle.arcstring_check.specs.Answer.{pick}
use Rattle.arcstring.specs.Leg.{Leg}
use Rattle.arcstring.proofs.Legs.{length_open_legs}
use Rattle.arcstring_along.specs.OnString.{next}
use Rattle.arcstring_mark.specs.Mark.{mark_on_leg, first_holding}
use Rattle.arcstring_mark_cut.specs.CutAtMarks.{part_before, part_after, leg_holding, at_piece_end, cut_piece, cut_first}

-- ---- the first leg that holds a mark is one of the legs

first_low : (b : Bool) (o : Option ℕ) (n i : ℕ) → ((j : ℕ) → o ≡ some j → j < n) → pick b (some 0) (next o) ≡ some i → i < suc n
first_low true o n i below h = let e : 0 ≡ i = cc in omega arith
first_low false none n i below h = absurd (let z : ◌≡◌ {A = ℕ} 0 1 = cc in omega arith)
first_low false (some j) n i below h = let e : suc j ≡ i = cc in omega (arith, below j refl)

holding_low : (p : SphericalPoint) (ls : List Leg) (i : ℕ) → first_holding p ls ≡ some i → i < length ls
unfolding first_holding
holding_low p [] i h = absurd (let z : ◌≡◌ {A = ℕ} 0 1 = cc in omega arith)
holding_low p (l ∷ ls) i h = first_low (mark_on_leg p l) (first_holding p ls) (length ls) i (holding_low p ls) h

-- ---- a cut among pieces

pub record CutIn {A : Type 0} (x : A) (xss cut : List (List A)) : Type 0 where
  pub before : List (List A)
  pub piece : List A
  pub after : List (List A)
  pub leg : ℕ
  pub low : leg + 1 < length piece
  pub were : xss ≡ before ++ (piece ∷ after)
  pub are : cut ≡ before ++ (part_before x leg piece ∷ part_after x leg piece ∷ after)

module _ {A : Type 0} (pt : A → SphericalPoint) (x : A) where
  pub leg_low : (xs : List A) (i : ℕ) → leg_holding pt x xs ≡ some i → i + 1 < length xs
  unfolding leg_holding
  leg_low xs i h = omega (arith, holding_low (pt x) _ i h, length_open_legs (map pt xs), length-map xs pt)

  module _ (xs : List A) (xss cut : List (List A)) where
    found_here : (i : ℕ) (b : Bool) → leg_holding pt x xs ≡ some i → pick b none (some (part_before x i xs ∷ part_after x i xs ∷ xss)) ≡ some cut
        → CutIn x (xs ∷ xss) cut
    found_here i true e h = absurd (let z : ◌≡◌ {A = ℕ} 0 1 = cc in omega arith)
    found_here i false e h = record { before = []; piece = xs; after = xss; leg = i; low = leg_low xs i e; were = refl; are = cc }

    found_by : (o : Option ℕ) (later : Option (List (List A))) → leg_holding pt x xs ≡ o → ((rest : List (List A)) → later ≡ some rest → CutIn x xss rest)
        → cut_piece pt x xs xss o later ≡ some cut → CutIn x (xs ∷ xss) cut
    found_by none none e below h = absurd (let z : ◌≡◌ {A = ℕ} 0 1 = cc in omega arith)
    found_by none (some rest) e below h =
        let r = below rest refl in
        let c : cut ≡ xs ∷ rest = cc in
        record {
          before = xs ∷ r.before;
          piece = r.piece;
          after = r.after;
          leg = r.leg;
          low = r.low;
          were = ap (λ (yss : List (List A)). xs ∷ yss) r.were;
          are = c ∙ ap (λ (yss : List (List A)). xs ∷ yss) r.are;
        }
    found_by (some i) later e below h = found_here i (at_piece_end pt x xs) e h

  pub found_cut : (xss cut : List (List A)) → cut_first pt x xss ≡ some cut → CutIn x xss cut
  unfolding cut_first
  found_cut [] cut h = absurd (let z : ◌≡◌ {A = ℕ} 0 1 = cc in omega arith)
  found_cut (xs ∷ xss) cut h = found_by xs xss cut (leg_holding pt x xs) (cut_first pt x xss) refl (found_cut xss) h
