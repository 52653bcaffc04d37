-- Demand 3 in terms of buffers, as `specs/InBuffers.antt` states it: what a caller takes out of the buffers that a walk or a restart left is the string that
-- it answered. Assumes nothing.
use mathlib.Core.Path.{◌≡◌, refl, sym, ap, ap₂, ◌∙◌}
use mathlib.Core.List.{List, [], ◌∷◌, ◌++◌, map}
use Prim.Native.Nat.{ℕ, ◌*◌}
use lib.ListN.{length, take, drop, length-map}
use lib.Seq.{take-append-le, take_all}
use lib.Ieee.{Float}
use native.Mathlib.Omega.{arith}
use Rattle.arcstring_check.specs.Answer.{refused, answered}
use Rattle.arcstring.specs.Points.{place_of, places_of, buoys_of, flat}
use Rattle.arcstring_walk.specs.Walk.{walk_back, restart}
use Rattle.arcstring.proofs.Flat.{length-flat}
use Rattle.same_crossings.specs.Changes.{Held, TwoStrings, Which, the_first, the_second, Change, trade, backwards, restart_at, walked_back, restarted_at}
use Rattle.same_crossings.specs.Changes.{change_one, change, changes}
use Rattle.same_crossings.specs.InBuffers.{Lending, swap, backwards_in, restart_in, back_through, restart_through, lend, lendings, ReadBack, Demand3InBuffers}
use Rattle.same_crossings.specs.InBuffers.{DisplaysAgree}
use Rattle.same_crossings.proofs.Demand3.{demand_3}

-- ---- what a call answered stands at the start of what it left

taken_back : {A : Type 0} (n : ℕ) (xs ys : List A) → length xs ≡ n → take n (xs ++ ys) ≡ xs
taken_back n xs ys e = take-append-le n xs ys (omega arith) ∙ take_all n xs (omega arith)

pub read_back : ReadBack
read_back s (refused k) out numbers = refl
read_back s (answered vs) out numbers =
    let n = length vs in
    let floats = flat (places_of vs) in
    let own = buoys_of vs in
    ap₂ (λ (v : List Float) (b : List ℕ). record { vertices = v; buoys = b; near = s.near; closed = s.closed })
    (taken_back (3 * n) floats (drop (length floats) out) (length-flat (places_of vs) ∙ ap (λ (k : ℕ). 3 * k) (length-map vs place_of)))
    (taken_back n own (drop (length own) numbers) (length-map vs _))

-- ---- such changes are changes

abbrev as_change : Lending → Change
as_change swap = trade
as_change (backwards_in w out numbers) = backwards w (length out) (length numbers)
as_change (restart_in w k out numbers) = restart_at w k (length out) (length numbers)

one_as : (w : Which) (f g : Held → Held) → ((s : Held) → f s ≡ g s) → (t : TwoStrings) → change_one w f t ≡ change_one w g t
one_as the_first f g same t = ap (λ (s : Held). record { first = s; second = t.second }) (same t.first)
one_as the_second f g same t = ap (λ (s : Held). record { first = t.first; second = s }) (same t.second)

lend_as : (l : Lending) (t : TwoStrings) → lend l t ≡ change (as_change l) t
lend_as swap t = refl
lend_as (backwards_in w out numbers) t =
    let room = length out in
    let buoy_room = length numbers in
    one_as w (back_through out numbers) (walked_back room buoy_room) (λ s. read_back s (walk_back s.vertices s.buoys room buoy_room) out numbers) t
lend_as (restart_in w k out numbers) t =
    let room = length out in
    let buoy_room = length numbers in
    one_as w (restart_through k out numbers) (restarted_at k room buoy_room)
    (λ s. read_back s (restart s.vertices s.buoys s.closed k room buoy_room) out numbers) t

lendings_as : (ls : List Lending) (t : TwoStrings) → lendings ls t ≡ changes (map as_change ls) t
unfolding lendings changes
lendings_as [] t = refl
lendings_as (l ∷ ls) t = ap (lendings ls) (lend_as l t) ∙ lendings_as ls (change (as_change l) t)

-- ---- what is claimed

pub demand_3_in_buffers : Demand3InBuffers
demand_3_in_buffers margin t a b ls = rw (lendings_as ls t) (demand_3.stay margin t a b (map as_change ls))

pub displays_agree : DisplaysAgree
displays_agree margin t a b ls ms = sym (demand_3_in_buffers margin t a b ls).same_counts ∙ (demand_3_in_buffers margin t a b ms).same_counts
