-- A walk backwards and a restart without the numbers, and the numbers alone: whatever is made of each vertex may be made before or after. The theorems of
-- `specs/BuoyLaws.antt`. Assumes nothing.
use mathlib.Core.Path.{◌≡◌, refl, sym, ap, ap₂, ◌∙◌}
use mathlib.Core.Bool.{Bool, true, false, ◌&&◌}
use mathlib.Core.List.{List, ◌++◌, map, map-append, reverse}
use Prim.Native.Nat.{ℕ}
use lib.Dec.{ltb}
use lib.ListN.{length, take, drop, length-map}
use lib.Ieee.{Float}
use Rattle.sphericalpoint.specs.declared.SphericalPoint.{SphericalPoint}
use Rattle.arcstring_check.specs.Answer.{answered, pick}
use Rattle.arcstring.specs.Points.{numbered, place_of, places_of, points}
use Rattle.arcstring_check.specs.Check.{string_check}
use Rattle.arcstring.proofs.Numbered.{map-take, map-drop, map-reverse}
use Rattle.arcstring.proofs.WithoutBuoys.{map-lent, lent_where, lent_places, lent_buoys, buoy_of}
use Rattle.arcstring_walk.specs.Walk.{restarted, walk_back, restart}
use Rattle.arcstring_walk.specs.BuoyLaws.{BackWithout, RestartWithout, BackBuoys, RestartBuoys}

module _ {A B : Type 0} (f : A → B) where
  by-start : (b : Bool) (k : ℕ) (l : List A) → map f (pick b (drop k l ++ take k l) l) ≡ pick b (drop k (map f l) ++ take k (map f l)) (map f l)
  by-start true k l = map-append f (drop k l) (take k l) ∙ ap₂ (λ (a b : List B). a ++ b) (map-drop f k l) (map-take f k l)
  by-start false k l = refl

  pub map-restarted : (l : List A) (closed : Bool) (k : ℕ) → map f (restarted l closed k) ≡ restarted (map f l) closed k
  unfolding restarted
  map-restarted l closed k =
      by-start (closed && ltb k (length l)) k l
      ∙ ap (λ (n : ℕ). pick (closed && ltb k n) (drop k (map f l) ++ take k (map f l)) (map f l)) (sym (length-map l f))

module _ (v : List Float) (bs : List ℕ) (accepted : string_check v bs ≡ 0) where
  pub back_places : places_of (reverse (numbered (points v) bs)) ≡ reverse (points v)
  back_places = map-reverse place_of (numbered (points v) bs) ∙ ap reverse (lent_places v bs accepted)

  pub restart_places : (closed : Bool) (k : ℕ) → places_of (restarted (numbered (points v) bs) closed k) ≡ restarted (points v) closed k
  restart_places closed k = map-restarted place_of (numbered (points v) bs) closed k ∙ ap (λ (ps : List SphericalPoint). restarted ps closed k)
      (lent_places v bs accepted)

pub back_without : BackWithout
unfolding walk_back
back_without v bs room buoy_room =
    map-lent place_of v bs room buoy_room (answered (reverse (numbered (points v) bs)))
    ∙ lent_where v bs room buoy_room _ _ (λ h. ap answered (back_places v bs h))

pub restart_without : RestartWithout
unfolding restart
restart_without v bs closed k room buoy_room =
    map-lent place_of v bs room buoy_room (answered (restarted (numbered (points v) bs) closed k))
    ∙ lent_where v bs room buoy_room _ _ (λ h. ap answered (restart_places v bs h closed k))

pub back_buoys : BackBuoys
unfolding walk_back
back_buoys v bs room buoy_room =
    map-lent buoy_of v bs room buoy_room (answered (reverse (numbered (points v) bs)))
    ∙ lent_where v bs room buoy_room _ _ (λ h. ap answered (map-reverse buoy_of (numbered (points v) bs) ∙ ap reverse (lent_buoys v bs h)))

pub restart_buoys : RestartBuoys
unfolding restart
restart_buoys v bs closed k room buoy_room =
    map-lent buoy_of v bs room buoy_room (answered (restarted (numbered (points v) bs) closed k))
    ∙ lent_where v bs room buoy_room _ _
    (λ h. ap answered (map-restarted buoy_of (numbered (points v) bs) closed k ∙ ap (λ (cs : List ℕ). restarted cs closed k) (lent_buoys v bs h)))
