-- A run that is not empty starts within the list. Assumes nothing.
use Rattle.std.proofs.Common.{◌≡◌, refl, ap, ℕ, ◌-◌, ◌*◌, ◌/◌, ◌%◌, ◌<◌, Bool, true, false, ◌&&◌, List, [], ◌∷◌, length, take, drop, arith, length-take}
use Rattle.std.proofs.Common.{length-drop}
use Rattle.std.specs.Prelude.{◌==◌, eqb, leb, Float}
use Rattle.arcstring_check.specs.Answer.{pick}
use Rattle.arcstring_walk.specs.Walk.{run_of}

within : (t : Bool) (v : List Float) (k n : ℕ) → (length (pick t (take n (drop k v)) []) ≡ 0 → ⊥) → k < length v
within true v k n h = omega (arith, length-take n (drop k v), length-drop k v)
within false v k n h = absurd (h refl)

pub run_starts_within : (v part : List Float) (a b : ℕ) → part ≡ run_of v a b → (length part == 0) ≡ false → 3 * a < length v
unfolding run_of
run_starts_within v [] a b e h = absurd (cc)
run_starts_within v (x ∷ part) a b e h =
    within (eqb (length v % 3) 0 && leb a b && leb b (length v / 3)) v (3 * a) (3 * b - 3 * a) (λ z. omega (arith, ap length e, z))
