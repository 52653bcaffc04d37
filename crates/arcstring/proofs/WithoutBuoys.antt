-- Geometry never depends on the numbers: a lent call without the numbers is the same call over points, and where the numbers are as many and their buffer is
-- long enough, it is the call that is lent none. Assumes nothing.
use mathlib.Core.Path.{◌≡◌, refl, sym, ap, ap₂, ◌∙◌}
use mathlib.Core.Bool.{Bool, true, false, not}
use mathlib.Core.List.{List, map}
use Prim.Native.Nat.{ℕ, ◌*◌, ◌/◌, ◌≤◌}
use lib.Dec.{eqb, ltb}
use lib.ListN.{length, length-map}
use lib.Ieee.{Float}
use borrow.Author.Tests.{ltb-false}
use native.Mathlib.Omega.{arith}
use Rattle.arcstring_check.specs.Answer.{Answer, answered, unless_refused, map_answer, and_then, first_of, number_if}
use Rattle.arcstring.specs.declared.inner.vertex.Vertex.{Vertex}
use Rattle.arcstring.specs.Points.{numbered, places_of, buoys_of, points}
use Rattle.arcstring_check.specs.Check.{list_check, buoys_check, string_check, points_check, room_check, rooms_check, into_room, into_rooms, lent}
use Rattle.arcstring.specs.BuoyLaws.{LentAlone}
use Rattle.arcstring_check.proofs.Answers.{map_unless, map_then, where_passed, then_same, first_alone}
use Rattle.arcstring_check.proofs.Checks.{as_many_buoys, string_alone}
use Rattle.arcstring.proofs.Flat.{count_points}
use Rattle.arcstring_check.proofs.Rooms.{room_enough}
use Rattle.arcstring.proofs.Numbered.{all_places, all_buoys}

-- ---- what is made of each vertex, before a call or after it

module _ {A B : Type 0} (f : A → B) where
  map_rooms : (room buoy_room : ℕ) (xs : List A) → map_answer (map f) (into_rooms room buoy_room xs) ≡ into_rooms room buoy_room (map f xs)
  unfolding into_rooms
  map_rooms room buoy_room xs =
      map_unless (map f) (rooms_check (length xs) room buoy_room) (answered xs)
      ∙ ap (λ (n : ℕ). unless_refused (rooms_check n room buoy_room) (answered (map f xs))) (sym (length-map xs f))

  pub map-lent : (v : List Float) (bs : List ℕ) (room buoy_room : ℕ) (a : Answer (List A))
      → map_answer (map f) (lent v bs room buoy_room a) ≡ lent v bs room buoy_room (map_answer (map f) a)
  unfolding lent
  map-lent v bs room buoy_room a =
      map_unless (map f) (string_check v bs) (and_then a (into_rooms room buoy_room))
      ∙ ap (unless_refused (string_check v bs)) (map_then (map f) a (into_rooms room buoy_room) (into_rooms room buoy_room) (map_rooms room buoy_room))

-- ---- what is answered to an accepted string is all that matters

pub lent_where : {A : Type 0} (v : List Float) (bs : List ℕ) (room buoy_room : ℕ) (a b : Answer (List A)) → (string_check v bs ≡ 0 → a ≡ b)
    → lent v bs room buoy_room a ≡ lent v bs room buoy_room b
unfolding lent
lent_where {A} v bs room buoy_room a b same =
    where_passed (string_check v bs) _ _ (λ h. ap (λ (x : Answer (List A)). and_then x (into_rooms room buoy_room)) (same h))

-- how many numbers there are is all that a check looks at
pub buoys_alike : (v : List Float) (bs cs : List ℕ) → length bs ≡ length cs → buoys_check v bs ≡ buoys_check v cs
unfolding buoys_check
buoys_alike v bs cs same = ap (λ (n : ℕ). number_if (not (eqb n (length v / 3))) 10) same

pub string_alike : (v : List Float) (bs cs : List ℕ) → length bs ≡ length cs → string_check v bs ≡ string_check v cs
unfolding string_check
string_alike v bs cs same = ap (λ (n : ℕ). list_check (first_of (number_if (eqb (length v) 0) 1) n) v) (buoys_alike v bs cs same)

pub points_alike : (v : List Float) (bs cs : List ℕ) → length bs ≡ length cs → points_check v bs ≡ points_check v cs
unfolding points_check
points_alike v bs cs same = ap (λ (n : ℕ). list_check n v) (buoys_alike v bs cs same)

pub lent_alike : {A : Type 0} (v : List Float) (bs cs : List ℕ) (room buoy_room : ℕ) (a : Answer (List A)) → length bs ≡ length cs
    → lent v bs room buoy_room a ≡ lent v cs room buoy_room a
unfolding lent
lent_alike v bs cs room buoy_room a same = ap (λ (n : ℕ). unless_refused n (and_then a (into_rooms room buoy_room))) (string_alike v bs cs same)

-- ---- as many numbers, and room for them: the checks of the points alone

pub rooms_alone : (n room buoy_room : ℕ) → room ≤ 3 * buoy_room → rooms_check n room buoy_room ≡ room_check (3 * n) room
unfolding rooms_check room_check
rooms_alone n room buoy_room enough = go (ltb room (3 * n)) refl
  where
    go : (b : Bool) → ltb room (3 * n) ≡ b → first_of (room_check (3 * n) room) (room_check n buoy_room) ≡ room_check (3 * n) room
    go true h = ap (λ (b : Bool). first_of (number_if b 7) (room_check n buoy_room)) h ∙ sym (ap (λ (b : Bool). number_if b 7) h)
    go false h =
        ap (first_of (room_check (3 * n) room)) (room_enough n buoy_room (let l : 3 * n ≤ room = ltb-false room (3 * n) h in omega arith))
        ∙ first_alone (room_check (3 * n) room)

pub lent_alone : LentAlone
unfolding lent into_rooms into_room
lent_alone A v bs room buoy_room a same enough =
    ap₂ unless_refused (string_alone v bs same)
    (then_same a (into_rooms room buoy_room) (into_room room)
    (λ xs. ap (λ (n : ℕ). unless_refused n (answered xs)) (rooms_alone (length xs) room buoy_room enough)))

-- ---- an accepted string, without the numbers, and the numbers alone

abbrev pub buoy_of : Vertex → ℕ
buoy_of x = x.buoy

module _ (v : List Float) (bs : List ℕ) (accepted : string_check v bs ≡ 0) where
  as_many : length bs ≡ length (points v)
  as_many = as_many_buoys v bs accepted ∙ sym (count_points v)

  pub lent_places : places_of (numbered (points v) bs) ≡ points v
  lent_places = all_places (points v) bs as_many

  pub lent_buoys : buoys_of (numbered (points v) bs) ≡ bs
  lent_buoys = all_buoys (points v) bs as_many
