-- A track in runs, each from the last vertex of the one before: the counts of the runs add up to those of the whole. Stated in `specs/CountLaws.antt`.
-- Assumes nothing.
use mathlib.Core.Path.{◌≡◌, refl, ap, ◌∙◌}
use mathlib.Core.Bool.{false}
use mathlib.Core.List.{List, [], ◌∷◌, ◌++◌, map}
use Prim.Native.Nat.{ℕ, ◌+◌}
use native.Mathlib.Omega.{arith}
use lib.Ieee.{Float}
use Rattle.sphericalpoint.specs.declared.SphericalPoint.{SphericalPoint}
use Rattle.arcstring.specs.Leg.{Leg, leg, legs, chain}
use Rattle.arcstring_pair.specs.declared.pair.Pair.{Pair}
use Rattle.arcstring_pair.specs.Pair.{pair_of}
use Rattle.arcstring_tally.specs.Pairs.{pairs_between, one_clean, one_end, one_grazing, one_apart, total, counts_of}
use Rattle.arcstring_tally.proofs.Tallies.{total-append}
use Rattle.same_crossings.specs.CountLaws.{RunsAddUp}

chain_runs : (u : SphericalPoint) (ps : List SphericalPoint) (x : SphericalPoint) (qs : List SphericalPoint)
    → chain u (ps ++ (x ∷ qs)) ≡ chain u (ps ++ (x ∷ [])) ++ chain x qs
chain_runs u [] x qs = refl
chain_runs u (p ∷ ps) x qs = ap (λ (ls : List Leg). leg u p ∷ ls) (chain_runs p ps x qs)

legs_runs : (ps : List SphericalPoint) (x : SphericalPoint) (qs : List SphericalPoint)
    → legs (ps ++ (x ∷ qs)) false ≡ legs (ps ++ (x ∷ [])) false ++ legs (x ∷ qs) false
unfolding legs
legs_runs [] x qs = refl
legs_runs (p ∷ ps) x qs = chain_runs p ps x qs

total_runs : (margin : Float) (g : Pair → ℕ) (ks ms ls : List Leg)
    → total g (pairs_between margin (ks ++ ms) ls) ≡ total g (pairs_between margin ks ls) + total g (pairs_between margin ms ls)
unfolding pairs_between total
total_runs margin g [] ms ls = omega arith
total_runs margin g (k ∷ ks) ms ls =
    let whole = total-append g (map (pair_of margin k) ls) (pairs_between margin (ks ++ ms) ls) in
    let part = total-append g (map (pair_of margin k) ls) (pairs_between margin ks ls) in
    omega (arith, whole, part, total_runs margin g ks ms ls)

pub runs_add_up : RunsAddUp
unfolding counts_of
runs_add_up margin ps x qs ls =
    let ks = legs (ps ++ (x ∷ [])) false in
    let ms = legs (x ∷ qs) false in
    ap (λ (all : List Leg). counts_of (pairs_between margin all ls)) (legs_runs ps x qs)
    ∙ simp
    (total_runs margin one_clean ks ms ls, total_runs margin one_end ks ms ls, total_runs margin one_grazing ks ms ls, total_runs margin one_apart ks ms ls)
