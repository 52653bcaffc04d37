-- A walk over a list to the first element that passes a test: where it stands, and whether there is one, which another order of the list does not change. One
-- law for every test, of points and of legs. Assumes nothing.
use Rattle.std.specs.Prelude as Std
use Rattle.std.specs.Prelude.{Some, None}
use mathlib.Core.Path.{◌≡◌, refl, sym, ap, ap₂, ◌∙◌}
use mathlib.Core.Bool.{Bool, true, false, ◌||◌, or_assoc, or_comm}
use mathlib.Core.List.{List, [], ◌∷◌, map, Permᴰ}
use mathlib.Core.Option.{Option, none, some}
use Prim.Native.Nat.{ℕ, ◌+◌}
use native.Mathlib.Nat.{add-zero}
use native.Mathlib.Omega.{arith}
use Rattle.arcstring_check.specs.Answer.{pick, option_of}
use Rattle.arcstring_along.specs.OnString.{next, is_some}

-- a position found in the part from k on, as one in the whole
abbrev pub from : ℕ → Option ℕ → Option ℕ
from k none = none
from k (some j) = some (k + j)

from_next : (k : ℕ) (o : Option ℕ) → from (k + 1) o ≡ from k (next o)
from_next k none = refl
from_next k (some j) = ap some (omega arith)

pub from_start : (o : Option ℕ) → from 0 o ≡ o
from_start none = refl
from_start (some j) = ap some (omega arith)

-- ---- what finds the first element that passes a test

pub record FindsFirst {A : Type 0} (test : A → Bool) (first : List A → Option ℕ) : Type 0 where
  pub at-end : first [] ≡ none
  pub in-turn : (x : A) (xs : List A) → first (x ∷ xs) ≡ pick (test x) (some 0) (next (first xs))

some_next : (o : Option ℕ) → is_some (next o) ≡ is_some o
some_next none = refl
some_next (some k) = refl

some_pick : (b : Bool) (o : Option ℕ) → is_some (pick b (some 0) o) ≡ b || is_some o
some_pick true o = refl
some_pick false o = refl

module _ {A : Type 0} {test : A → Bool} {first : List A → Option ℕ} (finds : FindsFirst test first) where
  -- one element after the other: the part from k on begins with x, and b is whether that passes
  step : {x : A} {rest : List A} (part : List A) (b : Bool) → part ≡ x ∷ rest → b ≡ test x → first part ≡ pick b (some 0) (next (first rest))
  step {x} {rest} part b h hb = ap first h ∙ finds.in-turn x rest ∙ ap (λ (t : Bool). pick t (some 0) (next (first rest))) (sym hb)

  pub found_here : {x : A} {rest : List A} (k : ℕ) (part : List A) (b : Bool) → part ≡ x ∷ rest → b ≡ test x → b ≡ true → some k ≡ from k (first part)
  found_here k part b h hb e = ap some (sym (add-zero k)) ∙ ap (from k) (sym (step part true h (sym e ∙ hb)))

  pub found_later : {x : A} {rest : List A} (k : ℕ) (part : List A) (b : Bool) → part ≡ x ∷ rest → b ≡ test x → b ≡ false
      → from (k + 1) (first rest) ≡ from k (first part)
  found_later {x} {rest} k part b h hb e = from_next k (first rest) ∙ ap (from k) (sym (step part false h (sym e ∙ hb)))

  pub found_none : (k : ℕ) (part : List A) → part ≡ [] → none ≡ from k (first part)
  found_none k part h = ap (from k) (sym (ap first h ∙ finds.at-end))

  -- whether one passes: the first, or one of the others
  pub some_passes : (x : A) (xs : List A) → is_some (first (x ∷ xs)) ≡ test x || is_some (first xs)
  some_passes x xs = ap is_some (finds.in-turn x xs) ∙ some_pick (test x) (next (first xs)) ∙ ap (λ (b : Bool). test x || b) (some_next (first xs))

  -- in another order there is one too
  two_pass : (x y : A) (xs : List A) → is_some (first (x ∷ y ∷ xs)) ≡ test x || test y || is_some (first xs)
  two_pass x y xs =
      some_passes x (y ∷ xs) ∙ ap (λ (b : Bool). test x || b) (some_passes y xs) ∙ sym (or_assoc (test x) (test y) (is_some (first xs)))

  pub any_order : {xs ys : List A} → Permᴰ xs ys → is_some (first xs) ≡ is_some (first ys)
  any_order Permᴰ.nil = refl
  any_order (Permᴰ.cons {a} {b} {l₁} {l₂} e d) = some_passes a l₁ ∙ ap₂ ◌||◌ (ap test e) (any_order d) ∙ sym (some_passes b l₂)
  any_order (Permᴰ.swap {a} {b} {a' = c} {b' = d} {l} e₁ e₂) =
      two_pass a b l
      ∙ ap (λ (t : Bool). t || is_some (first l)) (or_comm (test a) (test b) ∙ ap₂ ◌||◌ (ap test e₂) (ap test e₁))
      ∙ sym (two_pass c d l)
  any_order (Permᴰ.trans d₁ d₂) = any_order d₁ ∙ any_order d₂

  -- and with each element changed to one that passes alike
  pub any_changed : (k : A → A) → ((x : A) → test (k x) ≡ test x) → (xs : List A) → is_some (first (map k xs)) ≡ is_some (first xs)
  any_changed k e [] = refl
  any_changed k e (x ∷ xs) = some_passes (k x) (map k xs) ∙ ap₂ ◌||◌ (e x) (any_changed k e xs) ∙ sym (some_passes x xs)

-- ---- the verdict

pub found_some : (f : Std.Option ℕ) (o : Option ℕ) → option_of f ≡ o → Std.is_some f ≡ is_some o
found_some (Some k) o h = ap is_some h
found_some None o h = ap is_some h
