-- What simplifying keeps: what holds of a string and stays with every vertex but vertex 0 that is removed holds of the simplified string; it is simple, no
-- longer, begins with the same vertex; an open string is never refused, and a closed one only by 5. Assumes nothing.
use mathlib.Core.Path.{◌≡◌, refl, sym, ap, subst, ◌∙◌}
use mathlib.Core.Bool.{Bool, true, false}
use mathlib.Core.List.{List, [], ◌∷◌, ◌++◌, map}
use Prim.Native.Nat.{ℕ, zero, suc, ◌+◌, ◌-◌, ◌≤◌, ◌<◌}
use native.Mathlib.Omega.{arith}
use lib.ListN.{length, take, drop, length-append, length-drop, length-map}
use lib.Seq.{length-take-le, take-take, take-append-le}
use lib.Dec.{ltb}
use borrow.Author.Tests.{ltb-true}
use Rattle.arcstring_check.proofs.Answers.{answered_before, same_answer}
use Rattle.sphericalpoint.specs.declared.SphericalPoint.{SphericalPoint}
use Rattle.arcstring_check.specs.Answer.{Answer, refused, answered, and_then, pick}
use Rattle.arcstring_rounds.specs.Rounds.{unnecessary, unnecessary_from, unnecessary_positions, remove_at, remove_all, is_simple, rounds, simplified}
use Rattle.arcstring_rounds.specs.RoundLaws.{SimplifiedAgain, OpenNeverRefused, RefusedByFive, FirstVertexStays, NoLonger}
use Rattle.arcstring_rounds.specs.Kept.{kept_vertices}
use Rattle.arcstring_rounds.proofs.inner.Removals.{removed_in_turn}
use Rattle.arcstring_rounds.proofs.inner.OneRound.{round_open}
use Rattle.arcstring_rounds.proofs.inner.Rounds.{few_simple, not_simple, shorter, rounds_simple, rounds-step, simple_stays}

module _ {A : Type 0} (pt : A → SphericalPoint) where
  -- ---- what every removal keeps

  module _ (P : List A → Type 0) (step : (k : ℕ) (ps : List A) → 1 ≤ k → k < length ps → P ps → P (take k ps ++ drop (k + 1) ps)) where
    one_by : (b : Bool) (k : ℕ) (ps qs : List A) → 1 ≤ k → ltb k (length ps) ≡ b
        → pick b (answered (take k ps ++ drop (k + 1) ps)) (refused 5) ≡ answered qs → P ps → P qs
    one_by true k ps qs low t h p = subst P (same_answer (take k ps ++ drop (k + 1) ps) qs h) (step k ps low (ltb-true k (length ps) t) p)
    one_by false k ps qs low t h p = absurd (let z : ◌≡◌ {A = ℕ} 0 1 = cc in omega arith)

    one_keeps : (k : ℕ) (ps qs : List A) → 1 ≤ k → remove_at k ps ≡ answered qs → P ps → P qs
    unfolding remove_at
    one_keeps k ps qs low h p = one_by (ltb k (length ps)) k ps qs low refl h p

    run_by : (b : Bool) (k : ℕ) (us : List ℕ) (ps qs : List A) → 1 ≤ k → ((rs : List A) → remove_all us ps ≡ answered rs → P ps → P rs)
        → remove_all (pick b (k ∷ us) us) ps ≡ answered qs → P ps → P qs
    unfolding remove_all
    run_by true k us ps qs low rest h p =
        let mid = answered_before (remove_all us ps) (remove_at k) qs h in
        one_keeps k mid.0 qs low mid.2 (rest mid.0 mid.1 p)
    run_by false k us ps qs low rest h p = rest qs h p

    run_keeps : (judge : List SphericalPoint) (k count : ℕ) (ps qs : List A) → 1 ≤ k → remove_all (unnecessary_from judge k count) ps ≡ answered qs
        → P ps → P qs
    unfolding unnecessary_from remove_all
    run_keeps judge k zero ps qs low h p = subst P (same_answer ps qs h) p
    run_keeps judge k (suc count) ps qs low h p =
        run_by (unnecessary judge k) k (unnecessary_from judge (k + 1) count) ps qs low (λ rs. run_keeps judge (k + 1) count ps rs (omega arith)) h p

    again_keeps : (closed : Bool) (ps qs : List A) → remove_all (pick closed (unnecessary_from (map pt ps) 1 1) []) ps ≡ answered qs → P ps → P qs
    unfolding remove_all
    again_keeps true ps qs h p = run_keeps (map pt ps) 1 1 ps qs (omega arith) h p
    again_keeps false ps qs h p = subst P (same_answer ps qs h) p

    pub round_keeps : (closed : Bool) (ps qs : List A) → remove_all (unnecessary_positions (map pt ps) closed) ps ≡ answered qs → P ps → P qs
    unfolding unnecessary_positions
    round_keeps closed ps qs h p =
        let run = unnecessary_from (map pt ps) 1 (length (map pt ps) - 1) in
        let again = pick closed (unnecessary_from (map pt ps) 1 1) [] in
        let mid = answered_before (remove_all again ps) (remove_all run) qs (sym (removed_in_turn run again ps) ∙ h) in
        run_keeps (map pt ps) 1 (length (map pt ps) - 1) mid.0 qs (omega arith) mid.2 (again_keeps closed ps mid.0 mid.1 p)

    rounds_by : (b : Bool) (more : ℕ) (closed : Bool) (ps qs : List A) → is_simple (map pt ps) closed ≡ b
        → ((rs : List A) → rounds pt more closed rs ≡ answered qs → P rs → P qs)
        → rounds pt (suc more) closed ps ≡ answered qs → P ps → P qs
    rounds_by true more closed ps qs s rest h p = subst P (same_answer ps qs (sym (rounds_simple pt (suc more) closed ps s) ∙ h)) p
    rounds_by false more closed ps qs s rest h p =
        let mid = answered_before (remove_all (unnecessary_positions (map pt ps) closed) ps) (rounds pt more closed) qs
        (sym (rounds-step pt more closed ps s) ∙ h) in
        rest mid.0 mid.2 (round_keeps closed ps mid.0 mid.1 p)

    rounds-keep : (more : ℕ) (closed : Bool) (ps qs : List A) → rounds pt more closed ps ≡ answered qs → P ps → P qs
    unfolding rounds
    rounds-keep zero closed ps qs h p = subst P (same_answer ps qs h) p
    rounds-keep (suc more) closed ps qs h p = rounds_by (is_simple (map pt ps) closed) more closed ps qs refl (λ rs. rounds-keep more closed rs qs) h p

    pub simplified_keeps : (closed : Bool) (ps qs : List A) → simplified pt closed ps ≡ answered qs → P ps → P qs
    unfolding simplified
    simplified_keeps closed ps qs h p = rounds-keep (length ps) closed ps qs h p

  -- ---- one vertex less: the length, and vertex 0

  one_gone : (k : ℕ) (ps : List A) → k < length ps → length (take k ps ++ drop (k + 1) ps) ≤ length ps
  one_gone k ps h = omega (arith, length-append (take k ps) (drop (k + 1) ps), length-take-le k ps (omega arith), length-drop (k + 1) ps)

  first_after : (k : ℕ) (ps : List A) → 1 ≤ k → k < length ps → take 1 (take k ps ++ drop (k + 1) ps) ≡ take 1 ps
  first_after k ps low high =
      take-append-le 1 (take k ps) (drop (k + 1) ps) (omega (arith, length-take-le k ps (omega arith))) ∙ take-take 1 k ps low

  -- ---- once simplified, always simplified

  simple_by : (b : Bool) (more : ℕ) (closed : Bool) (ps qs : List A) → is_simple (map pt ps) closed ≡ b
      → ((rs : List A) → length rs + 1 ≤ length ps → rounds pt more closed rs ≡ answered qs → is_simple (map pt qs) closed ≡ true)
      → rounds pt (suc more) closed ps ≡ answered qs → is_simple (map pt qs) closed ≡ true
  simple_by true more closed ps qs s rest h =
      sym (ap (λ (rs : List A). is_simple (map pt rs) closed) (same_answer ps qs (sym (rounds_simple pt (suc more) closed ps s) ∙ h))) ∙ s
  simple_by false more closed ps qs s rest h =
      let mid = answered_before (remove_all (unnecessary_positions (map pt ps) closed) ps) (rounds pt more closed) qs
      (sym (rounds-step pt more closed ps s) ∙ h) in
      rest mid.0 (shorter (map pt ps) closed ps s mid.0 mid.1) mid.2

  rounds_end_simple : (more : ℕ) (closed : Bool) (ps qs : List A) → length ps ≤ more
      → rounds pt more closed ps ≡ answered qs → is_simple (map pt qs) closed ≡ true
  unfolding rounds
  rounds_end_simple zero closed ps qs l h = few_simple (map pt qs) closed (omega (arith, length-map qs pt, ap length (same_answer ps qs h)))
  rounds_end_simple (suc more) closed ps qs l h =
      simple_by (is_simple (map pt ps) closed) more closed ps qs refl (λ rs e. rounds_end_simple more closed rs qs (omega arith)) h

  -- two vertices at most, or none of them unnecessary
  pub simplified_simple : (closed : Bool) (ps qs : List A) → simplified pt closed ps ≡ answered qs → is_simple (map pt qs) closed ≡ true
  unfolding simplified
  simplified_simple closed ps qs h = rounds_end_simple (length ps) closed ps qs (omega arith) h

  -- ---- what is refused

  open_by : (b : Bool) (more : ℕ) (ps : List A) → is_simple (map pt ps) false ≡ b → ((rs : List A) → (qs : List A) × (rounds pt more false rs ≡ answered qs))
      → (qs : List A) × (rounds pt (suc more) false ps ≡ answered qs)
  open_by true more ps s rest = (ps, rounds_simple pt (suc more) false ps s)
  open_by false more ps s rest =
      let left = kept_vertices (map pt ps) ps 0 in
      let three = (not_simple (map pt ps) false s).0 in
      let on = rest left in (
        on.0,
        rounds-step pt more false ps s
            ∙ ap (λ (a : Answer (List A)). and_then a (rounds pt more false)) (round_open (map pt ps) ps (length-map ps pt) (omega (arith, length-map ps pt)))
            ∙ on.1,
      )

  open_rounds : (more : ℕ) (ps : List A) → (qs : List A) × (rounds pt more false ps ≡ answered qs)
  unfolding rounds
  open_rounds zero ps = (ps, refl)
  open_rounds (suc more) ps = open_by (is_simple (map pt ps) false) more ps refl (open_rounds more)

  same_refusal : {B : Type 0} (m n : ℕ) → ◌≡◌ {A = Answer B} (refused m) (refused n) → m ≡ n
  same_refusal m n h = cc

  -- a refusal is that of the first step, or of the second
  either_refuses : {B C : Type 0} (a : Answer B) (f : B → Answer C) → ((n : ℕ) → a ≡ refused n → n ≡ 5)
      → ((x : B) (n : ℕ) → f x ≡ refused n → n ≡ 5) → (n : ℕ) → and_then a f ≡ refused n → n ≡ 5
  either_refuses (refused m) f first then n h = let e : m ≡ n = same_refusal m n h in sym e ∙ first m refl
  either_refuses (answered x) f first then n h = then x n h

  one_refuses : (b : Bool) (x : List A) (n : ℕ) → pick b (answered x) (refused 5) ≡ refused n → n ≡ 5
  one_refuses true x n h = absurd (let z : ◌≡◌ {A = ℕ} 0 1 = cc in omega arith)
  one_refuses false x n h = sym (same_refusal 5 n h)

  all_refuse : (us : List ℕ) (ps : List A) (n : ℕ) → remove_all us ps ≡ refused n → n ≡ 5
  unfolding remove_all remove_at
  all_refuse [] ps n h = absurd (let z : ◌≡◌ {A = ℕ} 0 1 = cc in omega arith)
  all_refuse (u ∷ us) ps n h =
      either_refuses (remove_all us ps) (remove_at u) (all_refuse us ps) (λ qs m e. one_refuses (ltb u (length qs)) (take u qs ++ drop (u + 1) qs) m e) n h

  rounds_refuse_by : (b : Bool) (more : ℕ) (closed : Bool) (ps : List A) (n : ℕ) → is_simple (map pt ps) closed ≡ b
      → ((rs : List A) (m : ℕ) → rounds pt more closed rs ≡ refused m → m ≡ 5)
      → rounds pt (suc more) closed ps ≡ refused n → n ≡ 5
  rounds_refuse_by true more closed ps n s rest h = absurd (let e = rounds_simple pt (suc more) closed ps s in let z : ◌≡◌ {A = ℕ} 0 1 = cc in omega arith)
  rounds_refuse_by false more closed ps n s rest h =
      either_refuses (remove_all (unnecessary_positions (map pt ps) closed) ps) (rounds pt more closed)
      (all_refuse (unnecessary_positions (map pt ps) closed) ps) rest n (sym (rounds-step pt more closed ps s) ∙ h)

  rounds_refuse : (more : ℕ) (closed : Bool) (ps : List A) (n : ℕ) → rounds pt more closed ps ≡ refused n → n ≡ 5
  unfolding rounds
  rounds_refuse zero closed ps n h = absurd (let z : ◌≡◌ {A = ℕ} 0 1 = cc in omega arith)
  rounds_refuse (suc more) closed ps n h = rounds_refuse_by (is_simple (map pt ps) closed) more closed ps n refl (rounds_refuse more closed) h

-- ---- what is claimed

pub simplified_again : SimplifiedAgain
simplified_again A pt closed ps qs h = simple_stays pt closed qs (simplified_simple pt closed ps qs h)

-- an open string is simplified to some string, whatever it is
pub open_never_refused : OpenNeverRefused
unfolding simplified
open_never_refused A pt ps = open_rounds pt (length ps) ps

-- a closed one is refused by 5 or not at all
pub refused_by_five : RefusedByFive
unfolding simplified
refused_by_five A pt closed ps n h = rounds_refuse pt (length ps) closed ps n h

pub first_vertex_stays : FirstVertexStays
first_vertex_stays A pt closed ps qs h =
    simplified_keeps pt (λ (rs : List A). take 1 rs ≡ take 1 ps) (λ k rs low high p. first_after pt k rs low high ∙ p) closed ps qs h refl

pub simplified_no_longer : NoLonger
simplified_no_longer A pt closed ps qs h =
    simplified_keeps pt (λ (rs : List A). length rs ≤ length ps) (λ k rs low high p. let l = one_gone pt k rs high in omega arith) closed ps qs h (omega arith)
