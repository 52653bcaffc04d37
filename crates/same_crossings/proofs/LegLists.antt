-- The legs of a string that is walked backwards are its legs turned round, those of an open one in reverse; the legs of a closed string that is begun at
-- another vertex are its legs in another order. Assumes nothing.
use mathlib.Core.Path.{◌≡◌, refl, sym, ap, ◌∙◌}
use mathlib.Core.Bool.{Bool, true, false, ◌&&◌}
use mathlib.Core.List.Permᴰ
use mathlib.Core.List.{List, [], ◌∷◌, ◌++◌, map, reverse, reverse-cons, reverse-append, append_assoc, append-nil, Permᴰ}
use Prim.Native.Nat.{ℕ}
use lib.ListN.{length, take, drop, take-append-drop}
use lib.Dec.{ltb}
use Rattle.sphericalpoint.specs.declared.SphericalPoint.{SphericalPoint}
use Rattle.arcstring_check.specs.Answer.{pick}
use Rattle.arcstring_walk.specs.Walk.{restarted}
use Rattle.arcstring.specs.Leg.{Leg, leg, chain, legs}
use Rattle.same_crossings.proofs.PairOrders.{same_order}

abbrev pub turned : Leg → Leg
turned l = leg l.to l.from

-- the points u, vs, w, ws: the legs up to w, then those from w on
chain_split : (u : SphericalPoint) (vs : List SphericalPoint) (w : SphericalPoint) (ws : List SphericalPoint)
    → chain u (vs ++ (w ∷ ws)) ≡ chain u (vs ++ (w ∷ [])) ++ chain w ws
chain_split u [] w ws = refl
chain_split u (v ∷ vs) w ws = ap (λ (l : List Leg). leg u v ∷ l) (chain_split v vs w ws)

-- ---- walked backwards

open_last : (xs : List SphericalPoint) (v u : SphericalPoint) → legs (xs ++ (v ∷ []) ++ (u ∷ [])) false ≡ legs (xs ++ (v ∷ [])) false ++ (leg v u ∷ [])
unfolding legs
open_last [] v u = refl
open_last (x ∷ xs) v u = ap (chain x) (append_assoc xs (v ∷ []) (u ∷ [])) ∙ chain_split x xs v (u ∷ [])

pub open_backwards : (ps : List SphericalPoint) → legs (reverse ps) false ≡ reverse (map turned (legs ps false))
unfolding legs
open_backwards [] = refl
open_backwards (u ∷ []) = refl
open_backwards (u ∷ v ∷ vs) =
    ap (λ (l : List SphericalPoint). legs l false) (reverse-cons u (v ∷ vs) ∙ ap (λ (l : List SphericalPoint). l ++ (u ∷ [])) (reverse-cons v vs))
    ∙ open_last (reverse vs) v u
    ∙ ap (λ (l : List SphericalPoint). legs l false ++ (leg v u ∷ [])) (sym (reverse-cons v vs))
    ∙ ap (λ (l : List Leg). l ++ (leg v u ∷ [])) (open_backwards (v ∷ vs))
    ∙ sym (reverse-cons (leg v u) (map turned (chain v vs)))

-- ---- begun elsewhere

module _ (u : SphericalPoint) (vs : List SphericalPoint) (w : SphericalPoint) (ws : List SphericalPoint) where
  ring_split : legs ((u ∷ vs) ++ (w ∷ ws)) true ≡ chain u (vs ++ (w ∷ [])) ++ chain w (ws ++ (u ∷ []))
  unfolding legs
  ring_split = ap (chain u) (append_assoc vs (w ∷ ws) (u ∷ [])) ∙ chain_split u vs w (ws ++ (u ∷ []))

pub closed_elsewhere : (xs ys : List SphericalPoint) → Permᴰ (legs (ys ++ xs) true) (legs (xs ++ ys) true)
closed_elsewhere [] ys = same_order (ap (λ (l : List SphericalPoint). legs l true) (append-nil ys))
closed_elsewhere (u ∷ vs) [] = same_order (ap (λ (l : List SphericalPoint). legs (u ∷ l) true) (sym (append-nil vs)))
closed_elsewhere (u ∷ vs) (w ∷ ws) =
    Permᴰ.trans (same_order (ring_split w ws u vs))
    (Permᴰ.trans (Permᴰ.append_comm (chain w (ws ++ (u ∷ []))) (chain u (vs ++ (w ∷ [])))) (same_order (sym (ring_split u vs w ws))))

pub closed_backwards : (ps : List SphericalPoint) → Permᴰ (legs (reverse ps) true) (map turned (legs ps true))
unfolding legs
closed_backwards [] = Permᴰ.nil
closed_backwards (u ∷ vs) =
    let round = u ∷ (vs ++ (u ∷ [])) in
    let there : reverse round ≡ u ∷ (reverse vs ++ (u ∷ [])) = reverse-cons u (vs ++ (u ∷ [])) ∙ ap (λ (l : List SphericalPoint). l ++ (u ∷ []))
    (reverse-append vs (u ∷ [])) in
    Permᴰ.trans (same_order (ap (λ (l : List SphericalPoint). legs l true) (reverse-cons u vs)))
    (Permᴰ.trans (closed_elsewhere (u ∷ []) (reverse vs))
    (Permᴰ.trans (same_order (ap (λ (l : List SphericalPoint). legs l false) (sym there) ∙ open_backwards round))
    (Permᴰ.reverse (map turned (legs round false)))))

-- ---- as the calls have them

pub legs_backwards : (ps : List SphericalPoint) (closed : Bool) → Permᴰ (legs (reverse ps) closed) (map turned (legs ps closed))
legs_backwards ps true = closed_backwards ps
legs_backwards ps false = Permᴰ.trans (same_order (open_backwards ps)) (Permᴰ.reverse (map turned (legs ps false)))

pub legs-restarted : (ps : List SphericalPoint) (closed : Bool) (k : ℕ) → Permᴰ (legs (restarted ps closed k) closed) (legs ps closed)
unfolding restarted
legs-restarted ps false k = Permᴰ.refl (legs ps false)
legs-restarted ps true k = go (ltb k (length ps))
  where
    go : (b : Bool) → Permᴰ (legs (pick b (drop k ps ++ take k ps) ps) true) (legs ps true)
    go true = Permᴰ.trans (closed_elsewhere (take k ps) (drop k ps)) (same_order (ap (λ (l : List SphericalPoint). legs l true) (take-append-drop k ps)))
    go false = Permᴰ.refl (legs ps true)

pub restarted_order : (ps : List SphericalPoint) (closed : Bool) (k : ℕ) → Permᴰ (restarted ps closed k) ps
unfolding restarted
restarted_order ps closed k = go (closed && ltb k (length ps))
  where
    go : (b : Bool) → Permᴰ (pick b (drop k ps ++ take k ps) ps) ps
    go true = Permᴰ.trans (Permᴰ.append_comm (drop k ps) (take k ps)) (same_order (take-append-drop k ps))
    go false = Permᴰ.refl ps
