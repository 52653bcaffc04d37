-- The rounds of simplifying together: when a string is simple, that more rounds than vertices change nothing, and what follows a round. Assumes nothing.
use mathlib.Core.Path.{◌≡◌, refl, sym, ap, ◌∙◌}
use mathlib.Core.Bool.{Bool, true, false, ◌||◌}
use mathlib.Core.List.{List, [], ◌∷◌, map}
use Prim.Native.Nat.{ℕ, zero, suc, ◌+◌, ◌≤◌, ◌<◌}
use native.Mathlib.Omega.{arith}
use lib.ListN.{length, length-map}
use lib.Dec.{leb, eqb}
use borrow.Author.Tests.{le-leb, lt-leb, eq-eqb, ne_eqb, leb-false, eqb-false}
use Rattle.sphericalpoint.specs.declared.SphericalPoint.{SphericalPoint}
use Rattle.arcstring_check.specs.Answer.{Answer, refused, answered, and_then, pick}
use Rattle.arcstring_rounds.specs.Rounds.{unnecessary_positions, remove_all, is_simple, rounds, simplified}
use Rattle.arcstring_rounds.specs.RoundLaws.{RoundsEnough}
use Rattle.arcstring_rounds.proofs.inner.Removals.{removed_shorter}

-- ---- simple or not

module _ (ps : List SphericalPoint) (closed : Bool) where
  abbrev positions : List ℕ
  positions = unnecessary_positions ps closed

  pub few_simple : length ps ≤ 2 → is_simple ps closed ≡ true
  unfolding is_simple
  few_simple h = ap (λ (b : Bool). b || eqb (length positions) 0) (le-leb (length ps) 2 h)

  by_positions : 2 < length ps → (b : Bool) → eqb (length positions) 0 ≡ b → is_simple ps closed ≡ b
  unfolding is_simple
  by_positions h b e = ap (λ (t : Bool). t || eqb (length positions) 0) (lt-leb (length ps) 2 h) ∙ e

  -- else there are three vertices at least, and one of them is unnecessary
  pub not_simple : is_simple ps closed ≡ false → (2 < length ps) × (1 ≤ length positions)
  unfolding is_simple
  not_simple h = by_tests_lem (leb (length ps) 2) refl h
    where
      by_tests_lem : (b : Bool) → leb (length ps) 2 ≡ b → b || eqb (length positions) 0 ≡ false → (2 < length ps) × (1 ≤ length positions)
      by_tests_lem true t e = absurd (let z : ◌≡◌ {A = ℕ} 0 1 = cc in omega arith)
      by_tests_lem false t e = let n : length positions ≡ 0 → ⊥ = eqb-false (length positions) 0 e in (leb-false (length ps) 2 t, omega arith)

  -- and then a round leaves fewer
  pub shorter : {A : Type 0} (xs : List A) → is_simple ps closed ≡ false → (qs : List A) → remove_all positions xs ≡ answered qs → length qs + 1 ≤ length xs
  shorter xs s qs e = let l = (not_simple s).1 in omega (arith, removed_shorter positions xs qs e)

none_refuse : {A : Type 0} (us : List ℕ) (ps : List A) (n : ℕ) → remove_all us ps ≡ refused n → length us ≡ 0 → ⊥
unfolding remove_all
none_refuse [] ps n h z = let y : ◌≡◌ {A = ℕ} 0 1 = cc in omega arith
none_refuse (u ∷ us) ps n h z = omega arith

module _ {A : Type 0} (pt : A → SphericalPoint) where
  -- ---- more rounds than vertices change nothing

  pub rounds_simple : (more : ℕ) (closed : Bool) (ps : List A) → is_simple (map pt ps) closed ≡ true → rounds pt more closed ps ≡ answered ps
  unfolding rounds
  rounds_simple zero closed ps h = refl
  rounds_simple (suc more) closed ps h =
      ap (λ (b : Bool). pick b (answered ps) (and_then (remove_all (unnecessary_positions (map pt ps) closed) ps) (rounds pt more closed))) h

  pub rounds-step : (more : ℕ) (closed : Bool) (ps : List A) → is_simple (map pt ps) closed ≡ false
      → rounds pt (suc more) closed ps ≡ and_then (remove_all (unnecessary_positions (map pt ps) closed) ps) (rounds pt more closed)
  unfolding rounds
  rounds-step more closed ps h =
      ap (λ (b : Bool). pick b (answered ps) (and_then (remove_all (unnecessary_positions (map pt ps) closed) ps) (rounds pt more closed))) h

  same_rest : (a : Answer (List A)) (f g : List A → Answer (List A)) → ((qs : List A) → a ≡ answered qs → f qs ≡ g qs)
      → and_then a f ≡ and_then a g
  same_rest (refused n) f g same = refl
  same_rest (answered qs) f g same = same qs refl

  enough_by : (b : Bool) (f g : ℕ) (closed : Bool) (ps : List A) → is_simple (map pt ps) closed ≡ b
      → ((qs : List A) → length qs + 1 ≤ length ps → rounds pt f closed qs ≡ rounds pt g closed qs) → rounds pt (suc f) closed ps ≡ rounds pt (suc g) closed ps
  enough_by true f g closed ps s rest = rounds_simple (suc f) closed ps s ∙ sym (rounds_simple (suc g) closed ps s)
  enough_by false f g closed ps s rest =
      rounds-step f closed ps s
      ∙ same_rest (remove_all (unnecessary_positions (map pt ps) closed) ps) (rounds pt f closed) (rounds pt g closed)
      (λ qs e. rest qs (shorter (map pt ps) closed ps s qs e))
      ∙ sym (rounds-step g closed ps s)

pub rounds_enough : RoundsEnough
rounds_enough A pt zero g closed ps h l =
    let s = few_simple (map pt ps) closed (omega (arith, length-map ps pt)) in
    rounds_simple pt zero closed ps s ∙ sym (rounds_simple pt g closed ps s)
rounds_enough A pt (suc f) zero closed ps h l =
    let s = few_simple (map pt ps) closed (omega (arith, length-map ps pt)) in
    rounds_simple pt (suc f) closed ps s ∙ sym (rounds_simple pt zero closed ps s)
rounds_enough A pt (suc f) (suc g) closed ps h l =
    enough_by pt (is_simple (map pt ps) closed) f g closed ps refl (λ qs e. rounds_enough A pt f g closed qs (omega arith) (omega arith))

-- ---- simplified, by what a round leaves

module _ {A : Type 0} (pt : A → SphericalPoint) where
  module _ (closed : Bool) (ps : List A) where
    pub simple_stays : is_simple (map pt ps) closed ≡ true → simplified pt closed ps ≡ answered ps
    unfolding simplified
    simple_stays s = rounds_simple pt (length ps) closed ps s

    -- two vertices at most
    pub few_stay : length ps ≤ 2 → simplified pt closed ps ≡ answered ps
    few_stay h = simple_stays (few_simple (map pt ps) closed (omega (arith, length-map ps pt)))

    pub simplified-step : is_simple (map pt ps) closed ≡ false
        → simplified pt closed ps ≡ and_then (remove_all (unnecessary_positions (map pt ps) closed) ps) (simplified pt closed)
    unfolding simplified
    simplified-step s =
        rounds_enough A pt (length ps) (suc (length ps)) closed ps (omega arith) (omega arith)
        ∙ rounds-step pt (length ps) closed ps s
        ∙ same_rest pt (remove_all (unnecessary_positions (map pt ps) closed) ps) (rounds pt (length ps) closed) (simplified pt closed)
        (λ qs e. rounds_enough A pt (length ps) (length qs) closed qs (let l = shorter (map pt ps) closed ps s qs e in omega arith) (omega arith))

    module _ (more : 2 < length ps) where
      -- nothing is removed
      pub as_many_left : (qs : List A) → remove_all (unnecessary_positions (map pt ps) closed) ps ≡ answered qs
          → length qs ≡ length ps → simplified pt closed ps ≡ answered ps
      as_many_left qs e l =
          simple_stays (by_positions (map pt ps) closed (omega (arith, length-map ps pt)) true
          (eq-eqb (length (unnecessary_positions (map pt ps) closed)) 0 (omega (arith, removed_shorter (unnecessary_positions (map pt ps) closed) ps qs e))))

      pub fewer_left : (qs : List A) → remove_all (unnecessary_positions (map pt ps) closed) ps ≡ answered qs
          → (length qs ≡ length ps → ⊥) → simplified pt closed ps ≡ simplified pt closed qs
      fewer_left qs e l =
          simplified-step (by_positions (map pt ps) closed (omega (arith, length-map ps pt)) false
          (ne_eqb (length (unnecessary_positions (map pt ps) closed)) 0
          (λ z. l (omega (arith, removed_shorter (unnecessary_positions (map pt ps) closed) ps qs e)))))
          ∙ ap (λ (a : Answer (List A)). and_then a (simplified pt closed)) e

      some_positions : (n : ℕ) → remove_all (unnecessary_positions (map pt ps) closed) ps ≡ refused n
          → length (unnecessary_positions (map pt ps) closed) ≡ 0 → ⊥
      some_positions n e z = none_refuse (unnecessary_positions (map pt ps) closed) ps n e z

      pub round_refuses : (n : ℕ) → remove_all (unnecessary_positions (map pt ps) closed) ps ≡ refused n → simplified pt closed ps ≡ refused n
      round_refuses n e =
          simplified-step (by_positions (map pt ps) closed (omega (arith, length-map ps pt)) false
          (ne_eqb (length (unnecessary_positions (map pt ps) closed)) 0 (some_positions n e)))
          ∙ ap (λ (a : Answer (List A)). and_then a (simplified pt closed)) e
