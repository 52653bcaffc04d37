-- Steps taken in turn: what each of them keeps, all keep; and a step that changes nothing may be left out. Assumes nothing.
use mathlib.Core.Path.{◌≡◌, refl, sym, subst, ◌∙◌}
use mathlib.Core.List.{List, [], ◌∷◌, ◌++◌, Memᴰ}
use Rattle.arcstring_check.specs.Answer.{Answer, refused, answered, and_then}
use Rattle.arcstring_check.proofs.Answers.{then_answered, answered_before, same_answer}
use Rattle.arcstring_insert.specs.Steps.{for_each}

-- ---- what follows an answer

then_in_turn : {B : Type 0} (a : Answer B) (f g h : B → Answer B) → ((b : B) → f b ≡ and_then (g b) h) → and_then a f ≡ and_then (and_then a g) h
then_in_turn (refused n) f g h same = refl
then_in_turn (answered b) f g h same = same b

then_where : {B : Type 0} (a : Answer B) (f g : B → Answer B) → ((b : B) → a ≡ answered b → f b ≡ g b) → and_then a f ≡ and_then a g
then_where (refused n) f g same = refl
then_where (answered b) f g same = same b refl

-- ---- a step for each element of a list

module _ {A B : Type 0} (f : A → B → Answer B) where
  pub kept_by_each : (P : B → Type 0) (l : List A) → ((x : A) → Memᴰ x l → (b c : B) → f x b ≡ answered c → P b → P c)
      → (b c : B) → for_each f l b ≡ answered c → P b → P c
  unfolding for_each
  kept_by_each P [] keeps b c h p = subst P (same_answer b c h) p
  kept_by_each P (x ∷ l) keeps b c h p =
      let r = answered_before (f x b) (for_each f l) c h in
      kept_by_each P l (λ y m. keeps y (Memᴰ.tail m)) r.0 c r.2 (keeps x (Memᴰ.head refl) b r.0 r.1 p)

  each_join : (l m : List A) (b : B) → for_each f (l ++ m) b ≡ and_then (for_each f l b) (for_each f m)
  unfolding for_each
  each_join [] m b = refl
  each_join (x ∷ l) m b = then_in_turn (f x b) (for_each f (l ++ m)) (for_each f l) (for_each f m) (each_join l m)

  pub each_without : (l : List A) (x : A) (m : List A) (b : B) → ((c : B) → for_each f l b ≡ answered c → f x c ≡ answered c)
      → for_each f (l ++ (x ∷ m)) b ≡ for_each f (l ++ m) b
  unfolding for_each
  each_without l x m b stays =
      each_join l (x ∷ m) b
      ∙ then_where (for_each f l b) (for_each f (x ∷ m)) (for_each f m) (λ c e. then_answered (f x c) (for_each f m) c (stays c e))
      ∙ sym (each_join l m b)
