-- The room check at each outcome: 7 where the answer is longer than the buffer, else 0, and then it fits; and a finished answer that is handed over. Assumes
-- nothing.
use Rattle.std.specs.Prelude.{Err}
use Rattle.std.proofs.lemmas.Bool.{cases_lt}
use mathlib.Core.Path.{◌≡◌, refl, sym, ap, ◌∙◌}
use mathlib.Core.Bool.{Bool, true, false}
use mathlib.Core.List.{List}
use mathlib.Core.Logic.{inl, inr}
use Prim.Native.Nat.{ℕ, ◌*◌, ◌/◌, ◌≤◌, ◌<◌}
use native.Mathlib.Omega.{arith}
use lib.ListN.{length}
use lib.Dec.{ltb}
use borrow.Author.Tests.{lt-ltb, le-ltb, ltb-true, ltb-false}
use Rattle.sphericalpoint.specs.declared.SphericalPoint.{SphericalPoint}
use Rattle.arcstring_check.specs.Answer.{Answer, refused, answered, unless_refused, number_if, refusal_number}
use Rattle.arcstring_check.specs.Check.{room_check, rooms_check, into_room}
use Rattle.arcstring_check.specs.declared.check.Refusal.{Refusal}
use Rattle.arcstring_check.proofs.Answers.{stopped, first_passes, second_passes, first_refused}
use Rattle.arcstring_check.proofs.Checks.{if_none}

pub no_room : (needed lent : ℕ) → lent < needed → room_check needed lent ≡ 7
unfolding room_check
no_room needed lent h = ap (λ (b : Bool). number_if b 7) (lt-ltb lent needed h)

pub room_enough : (needed lent : ℕ) → needed ≤ lent → room_check needed lent ≡ 0
unfolding room_check
room_enough needed lent h = ap (λ (b : Bool). number_if b 7) (le-ltb lent needed h)

pub room_fits : (needed lent : ℕ) → room_check needed lent ≡ 0 → needed ≤ lent
unfolding room_check
room_fits needed lent h = ltb-false lent needed (if_none (ltb lent needed) 6 h)

-- refused, the buffer is too short
pub room_lacks : (e : Refusal) (needed lent : ℕ) → refusal_number e ≡ room_check needed lent → lent < needed
room_lacks e needed lent told =
    elim (cases_lt lent needed) [
      | inl short ↦ short
      | inr fits ↦ absurd (
          let accepted : ◌≡◌ {A = Answer ℕ} (refused (refusal_number e)) (answered 0) = stopped e 0 (answered 0) (told ∙ room_enough needed lent fits) in
          let z : ◌≡◌ {A = ℕ} 0 1 = cc in omega arith
          )
    ]

-- vertices, in a buffer of floats
vertex_room : (n floats : ℕ) → room_check n (floats / 3) ≡ room_check (3 * n) floats
unfolding room_check
vertex_room n floats = go (ltb (floats / 3) n) refl
  where
    go : (b : Bool) → ltb (floats / 3) n ≡ b → number_if (ltb (floats / 3) n) 7 ≡ number_if (ltb floats (3 * n)) 7
    go true e = let l : floats / 3 < n = ltb-true (floats / 3) n e in rw (e, lt-ltb floats (3 * n) (omega arith))
    go false e = let l : n ≤ floats / 3 = ltb-false (floats / 3) n e in rw (e, le-ltb floats (3 * n) (omega arith))

-- vertices and their numbers
module _ (n floats numbers : ℕ) where
  pub rooms_stopped : (e : Refusal) → refusal_number e ≡ room_check n (floats / 3) → refusal_number e ≡ rooms_check n floats numbers
  unfolding rooms_check
  rooms_stopped e h =
      let p : refusal_number e ≡ room_check (3 * n) floats = h ∙ vertex_room n floats in
      rw (← p) (first_refused (Err e) e (room_check n numbers) refl)

  pub rooms_went_on : (m : ℕ) → 0 ≡ room_check n (floats / 3) → m ≡ room_check n numbers → m ≡ rooms_check n floats numbers
  unfolding rooms_check
  rooms_went_on m h g =
      let p : 0 ≡ room_check (3 * n) floats = h ∙ vertex_room n floats in
      rw (← p, g)

  pub rooms_hold : 0 ≡ rooms_check n floats numbers → (3 * n ≤ floats) × (n ≤ numbers)
  unfolding rooms_check
  rooms_hold h = (
    room_fits (3 * n) floats (first_passes (room_check (3 * n) floats) (room_check n numbers) (sym h)),
    room_fits n numbers (second_passes (room_check (3 * n) floats) (room_check n numbers) (sym h)),
  )

-- a finished answer, handed over
module _ (room : ℕ) (ps : List SphericalPoint) where
  pub no_room_into : room < 3 * length ps → into_room room ps ≡ refused 7
  unfolding into_room
  no_room_into h = ap (λ (n : ℕ). unless_refused n (answered ps)) (no_room (3 * length ps) room h)

  pub room_into : 3 * length ps ≤ room → into_room room ps ≡ answered ps
  unfolding into_room
  room_into h = ap (λ (n : ℕ). unless_refused n (answered ps)) (room_enough (3 * length ps) room h)
