-- What a call that writes vertices and numbers answers and leaves in both buffers, by what its definition answers. Assumes nothing.
use Rattle.std.specs.Prelude.{Result, Ok}
use mathlib.Core.Path.{◌≡◌, refl, sym, ap, ap₂, ◌∙◌}
use mathlib.Core.Bool.{Bool, true, false, ◌||◌}
use mathlib.Core.List.{List, ◌++◌}
use Prim.Native.Nat.{ℕ, ◌*◌, ◌≤◌}
use native.Mathlib.Omega.{arith}
use lib.ListN.{length, drop, length-map}
use lib.Dec.{ltb}
use borrow.Author.Tests.{ltb-false}
use lib.Ieee.{Float}
use Rattle.arcstring.specs.Work.{held_count}
use Rattle.sphericalpoint.specs.declared.SphericalPoint.{SphericalPoint}
use Rattle.arcstring_check.specs.Answer.{Answer, refused, answered, unless_refused, first_of, number_if, leaves, pick}
use Rattle.arcstring.specs.declared.inner.vertex.Vertex.{Vertex}
use Rattle.arcstring.specs.Points.{places_of, buoys_of, place_of, flat}
use Rattle.arcstring_check.specs.Check.{room_check, rooms_check, into_rooms}
use Rattle.arcstring.specs.Written.{written_result, written_floats, without_buoys, written_buoys}
use Rattle.arcstring.proofs.Flat.{length-flat}
use Rattle.arcstring_check.specs.declared.check.Refusal.{Refusal}

module _ (old : List Float) (old_buoys : List ℕ) (a : Answer (List Vertex)) where
  -- the answer, and what the buffers then hold
  abbrev pub Leaves : Answer ℕ → List Float → List ℕ → Type 0
  Leaves r out out_buoys = (r ≡ written_result a) × ((out ≡ leaves (written_floats (without_buoys a)) old) × (out_buoys ≡ leaves (written_buoys a) old_buoys))

  pub left_refused : (n : ℕ) → refused n ≡ a → Leaves (refused n) old old_buoys
  left_refused n h = (
    ap written_result h,
    (
      ap (λ (b : Answer (List Vertex)). leaves (written_floats (without_buoys b)) old) h,
      ap (λ (b : Answer (List Vertex)). leaves (written_buoys b) old_buoys) h,
    ),
  )

  -- the points ps and the numbers bs were written
  pub left_written : (vs : List Vertex) (n : ℕ) (ps : List SphericalPoint) (bs : List ℕ) (out : List Float) (out_buoys : List ℕ)
      → answered vs ≡ a → length vs ≡ n → places_of vs ≡ ps → buoys_of vs ≡ bs
      → out ≡ flat ps ++ drop (3 * n) old → out_buoys ≡ bs ++ drop n old_buoys → Leaves (answered n) out out_buoys
  left_written vs n ps bs out out_buoys h l p b w u =
      let c : length (places_of vs) ≡ n = length-map vs place_of ∙ l in
      let f : 3 * n ≡ length (flat (places_of vs)) = omega (arith, length-flat (places_of vs)) in
      let m : n ≡ length (buoys_of vs) = sym (length-map vs (λ (x : Vertex). x.buoy) ∙ l) in (
        ap answered (sym l) ∙ ap written_result h,
        (
          w ∙ ap₂ (λ (qs : List SphericalPoint) (k : ℕ). flat qs ++ drop k old) (sym p) f
              ∙ ap (λ (x : Answer (List Vertex)). leaves (written_floats (without_buoys x)) old) h,
          u ∙ ap₂ (λ (cs : List ℕ) (k : ℕ). cs ++ drop k old_buoys) (sym b) m ∙ ap (λ (x : Answer (List Vertex)). leaves (written_buoys x) old_buoys) h,
        ),
      )

-- ---- the test for both rooms

module _ (room buoy_room n : ℕ) where
  either : (a b c : Bool) → a || b ≡ c → first_of (number_if a 7) (number_if b 7) ≡ pick c 7 0
  either true b c h = ap (λ (t : Bool). pick t 7 0) h
  either false true c h = ap (λ (t : Bool). pick t 7 0) h
  either false false c h = ap (λ (t : Bool). pick t 7 0) h

  by_test : (c : Bool) → ltb room (3 * n) || ltb buoy_room n ≡ c → rooms_check n room buoy_room ≡ pick c 7 0
  unfolding rooms_check room_check
  by_test = either (ltb room (3 * n)) (ltb buoy_room n)

  pub rooms_short : ltb room (3 * n) || ltb buoy_room n ≡ true → rooms_check n room buoy_room ≡ 7
  rooms_short h = by_test true h

  pub rooms_fit : ltb room (3 * n) || ltb buoy_room n ≡ false → rooms_check n room buoy_room ≡ 0
  rooms_fit h = by_test false h

-- finished vertices, by this test
module _ {A : Type 0} (room buoy_room : ℕ) (vs : List A) (n : ℕ) (long : length vs ≡ n) where
  into_by : (m : ℕ) → rooms_check n room buoy_room ≡ m → into_rooms room buoy_room vs ≡ unless_refused m (answered vs)
  unfolding into_rooms
  into_by m h = ap (λ (k : ℕ). unless_refused k (answered vs)) (ap (λ (k : ℕ). rooms_check k room buoy_room) long ∙ h)

  pub no_rooms : ltb room (3 * n) || ltb buoy_room n ≡ true → into_rooms room buoy_room vs ≡ refused 7
  no_rooms h = into_by 7 (rooms_short room buoy_room n h)

  pub rooms_enough : ltb room (3 * n) || ltb buoy_room n ≡ false → into_rooms room buoy_room vs ≡ answered vs
  rooms_enough h = into_by 0 (rooms_fit room buoy_room n h)

-- both rooms are large enough
pub both_fit : (room buoy_room n : ℕ) → ltb room (3 * n) || ltb buoy_room n ≡ false → (3 * n ≤ room) × (n ≤ buoy_room)
both_fit room buoy_room n = go (ltb room (3 * n)) (ltb buoy_room n) refl refl
  where
    go : (a b : Bool) → ltb room (3 * n) ≡ a → ltb buoy_room n ≡ b → a || b ≡ false → (3 * n ≤ room) × (n ≤ buoy_room)
    go true b p q h = absurd (let z : ◌≡◌ {A = ℕ} 0 1 = cc in omega arith)
    go false true p q h = absurd (let z : ◌≡◌ {A = ℕ} 0 1 = cc in omega arith)
    go false false p q h = (ltb-false room (3 * n) p, ltb-false buoy_room n q)

-- how many are held, where the answer is known
pub held_at_most : (w : Result ℕ Refusal) (n most : ℕ) → w ≡ Ok n → held_count w ≤ most → n ≤ most
held_at_most w n most told h = omega (arith, ap held_count told)
