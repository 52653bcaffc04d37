-- What tests of the four side values say together: which rule each other out, what the least of their squares and of their products tells, and what shows that
-- a pair is apart. Assumes nothing.
use mathlib.Core.Path.{◌≡◌, refl, sym, ap, subst, ◌∙◌}
use mathlib.Core.Logic.{◌⊎◌, inl, inr}
use mathlib.Core.Bool.{Bool, true, false, not, ◌&&◌, ◌||◌, cond}
use mathlib.Core.List.{List, [], ◌∷◌}
use native.Mathlib.Omega.{arith}
use lib.Dec.{T}
use lib.ListN.{length, get_or}
use lib.Ieee.{Float, nan, inf, fin, binary64, mul, lt, of_bits}
use Rattle.ieee754.specs.Value.{zero_float}
use Rattle.ieee754.proofs.Tests.{never, and_first, and_second}
use Rattle.ieee754.proofs.Products.{product_below}
use Rattle.arcstring_sides.specs.Sides.{grazes, is_above, is_below, sign_negative, sign_positive, some_side, every_side, shows_apart}
use Rattle.arcstring_sides.proofs.Signs.{positive_of_other, negative_of_other, above_is_no_zero, below_is_no_zero}
use Rattle.arcstring_sides.proofs.Margins.{holds, true_of, both_clear, clear_not_grazing}

-- ---- any tests of the side values: one that rules out another

module _ (f g : Float → Bool) (rules-out : (x : Float) → f x ≡ true → g x ≡ false) where
  pub some_not_every : (s : List Float) → some_side f s ≡ true → every_side g s ≡ false
  unfolding every_side some_side
  some_not_every [] h = never h
  some_not_every (x ∷ s) h = go (f x) refl h (some_not_every s)
    where
      step : (b : Bool) → every_side g s ≡ false → (b && every_side g s) ≡ false
      step true e = e
      step false e = refl

      go : (b : Bool) → f x ≡ b → (b || some_side f s) ≡ true → (some_side f s ≡ true → every_side g s ≡ false) → (g x && every_side g s) ≡ false
      go true e k rest = rw (rules-out x e)
      go false e k rest = step (g x) (rest k)

-- ---- four values

some_at : (f : Float → Bool) (x : Float) (s : List Float) → f x ≡ true → some_side f (x ∷ s) ≡ true
unfolding some_side
some_at f x s h = rw h

some_after : (f : Float → Bool) (x : Float) (s : List Float) → some_side f s ≡ true → some_side f (x ∷ s) ≡ true
unfolding some_side
some_after f x s h = go (f x)
  where
    go : (b : Bool) → (b || some_side f s) ≡ true
    go true = refl
    go false = h

none_of_four : (f : Float → Bool) (a b c d : Float) → f a ≡ false → f b ≡ false → f c ≡ false → f d ≡ false → some_side f (a ∷ b ∷ c ∷ d ∷ []) ≡ false
unfolding some_side
none_of_four f a b c d h i j k = rw (h, i, j, k)

-- four side values in a list
four_values : (s : List Float) → length s ≡ 4 → s ≡ get_or s 0 nan ∷ get_or s 1 nan ∷ get_or s 2 nan ∷ get_or s 3 nan ∷ []
four_values [] l = absurd (omega arith)
four_values (a ∷ []) l = absurd (omega arith)
four_values (a ∷ b ∷ []) l = absurd (omega arith)
four_values (a ∷ b ∷ c ∷ []) l = absurd (omega arith)
four_values (a ∷ b ∷ c ∷ d ∷ []) l = refl
four_values (a ∷ b ∷ c ∷ d ∷ e ∷ s) l = absurd (omega arith)

-- ---- the tests with zero

one_sign : (x : Float) → sign_positive x ≡ true → sign_negative x ≡ false
unfolding sign_positive sign_negative
one_sign nan h = refl
one_sign (inf true) h = never h
one_sign (inf false) h = refl
one_sign (fin true m e) h = never h
one_sign (fin false m e) h = refl

other_sign : (x : Float) → sign_negative x ≡ true → sign_positive x ≡ false
unfolding sign_positive sign_negative
other_sign nan h = refl
other_sign (inf true) h = refl
other_sign (inf false) h = never h
other_sign (fin true m e) h = refl
other_sign (fin false m e) h = never h

pub above_not_below : (x : Float) → is_above x ≡ true → is_below x ≡ false
unfolding is_above is_below of_bits
above_not_below x h =
    let z = above_is_no_zero x h in
    negative_of_other x z ∙ one_sign x (sym (positive_of_other x z) ∙ h)

pub below_not_above : (x : Float) → is_below x ≡ true → is_above x ≡ false
unfolding is_above is_below of_bits
below_not_above x h =
    let z = below_is_no_zero x h in
    positive_of_other x z ∙ other_sign x (sym (negative_of_other x z) ∙ h)

-- ---- what is tested

pub all_three : (a b c : Bool) → ((not a && b) && c) ≡ true → (a ≡ false) × (b ≡ true) × (c ≡ true)
all_three false true true h = (refl, refl, refl)
all_three false true false h = never h
all_three false false c h = never h
all_three true b c h = never h

-- the least square of four, as the code picks it, is above the margin's: none grazes
pub squares_clear : (s : List Float) → length s ≡ 4 → {last rest least : Float} → (margin : Float)
    → last ≡ cond (lt (mul binary64 (get_or s 2 nan) (get_or s 2 nan)) (mul binary64 (get_or s 3 nan) (get_or s 3 nan)))
    (mul binary64 (get_or s 2 nan) (get_or s 2 nan)) (mul binary64 (get_or s 3 nan) (get_or s 3 nan))
    → rest ≡ cond (lt (mul binary64 (get_or s 1 nan) (get_or s 1 nan)) last) (mul binary64 (get_or s 1 nan) (get_or s 1 nan)) last
    → least ≡ cond (lt (mul binary64 (get_or s 0 nan) (get_or s 0 nan)) rest) (mul binary64 (get_or s 0 nan) (get_or s 0 nan)) rest
    → lt (mul binary64 margin margin) least ≡ true → some_side (grazes margin) s ≡ false
squares_clear s l margin hlast hrest hleast h =
    let w = mul binary64 margin margin in
    let first = both_clear margin _ _ (ap (lt w) (sym hleast) ∙ h) in
    let second = both_clear margin _ _ (ap (lt w) (sym hrest) ∙ first.1) in
    let third = both_clear margin _ _ (ap (lt w) (sym hlast) ∙ second.1) in
    ap (some_side (grazes margin)) (four_values s l)
    ∙ none_of_four (grazes margin) _ _ _ _ (clear_not_grazing margin _ first.0) (clear_not_grazing margin _ second.0)
    (clear_not_grazing margin _ third.0) (clear_not_grazing margin _ (λ n. holds third.1))

-- a product of two of the four that is below zero: one of them is above zero and one below
abbrev BothSigns : List Float → Type 0
BothSigns s = (some_side is_above s ≡ true) × (some_side is_below s ≡ true)

signs_of : (x y : Float) (s : List Float) → ((f : Float → Bool) → f x ≡ true → some_side f s ≡ true) → ((f : Float → Bool) → f y ≡ true → some_side f s ≡ true)
    → is_below (mul binary64 x y) ≡ true → BothSigns s
unfolding is_above is_below
signs_of x y s at_x at_y h = go (product_below binary64 x y (holds h))
  where
    go : (T (lt zero_float x) × T (lt y zero_float)) ⊎ (T (lt x zero_float) × T (lt zero_float y)) → BothSigns s
    go (inl k) = (at_x is_above (true_of _ k.0), at_y is_below (true_of _ k.1))
    go (inr k) = (at_y is_above (true_of _ k.1), at_x is_below (true_of _ k.0))

-- whichever of two is picked
either : (c : Bool) (x y : Float) {A : Type 0} → is_below (cond c x y) ≡ true → (is_below x ≡ true → A) → (is_below y ≡ true → A) → A
either true x y h f g = f h
either false x y h f g = g h

module _ (a b c d : Float) where
  with_second : is_below (mul binary64 a b) ≡ true → BothSigns (a ∷ b ∷ c ∷ d ∷ [])
  with_second = signs_of a b _ (λ f k. some_at f a _ k) (λ f k. some_after f a _ (some_at f b _ k))

  with_third : is_below (mul binary64 a c) ≡ true → BothSigns (a ∷ b ∷ c ∷ d ∷ [])
  with_third = signs_of a c _ (λ f k. some_at f a _ k) (λ f k. some_after f a _ (some_after f b _ (some_at f c _ k)))

  with_last : is_below (mul binary64 a d) ≡ true → BothSigns (a ∷ b ∷ c ∷ d ∷ [])
  with_last = signs_of a d _ (λ f k. some_at f a _ k) (λ f k. some_after f a _ (some_after f b _ (some_after f c _ (some_at f d [] k))))

pub products_differ : (s : List Float) → length s ≡ 4 → {rest least : Float}
    → rest ≡ cond (lt (mul binary64 (get_or s 0 nan) (get_or s 2 nan)) (mul binary64 (get_or s 0 nan) (get_or s 3 nan)))
    (mul binary64 (get_or s 0 nan) (get_or s 2 nan)) (mul binary64 (get_or s 0 nan) (get_or s 3 nan))
    → least ≡ cond (lt (mul binary64 (get_or s 0 nan) (get_or s 1 nan)) rest) (mul binary64 (get_or s 0 nan) (get_or s 1 nan)) rest
    → is_below least ≡ true → BothSigns s
products_differ s l {rest} hrest hleast h =
    let a = get_or s 0 nan in
    let b = get_or s 1 nan in
    let c = get_or s 2 nan in
    let d = get_or s 3 nan in
    let later : is_below rest ≡ true → BothSigns (a ∷ b ∷ c ∷ d ∷ []) = λ k. either (lt (mul binary64 a c) (mul binary64 a d)) (mul binary64 a c)
    (mul binary64 a d)
    (ap is_below (sym hrest) ∙ k) (with_third a b c d) (with_last a b c d) in
    subst BothSigns (sym (four_values s l))
    (either (lt (mul binary64 a b) rest) (mul binary64 a b) rest (ap is_below (sym hleast) ∙ h) (with_second a b c d) later)

-- both tests tell the three
pub both_tested : (margin least product : Float) (s : List Float) → ((m : Float) → lt (mul binary64 m m) least ≡ true → some_side (grazes m) s ≡ false)
    → (is_below product ≡ true → BothSigns s) → lt (mul binary64 margin margin) least && lt product zero_float ≡ true → shows_apart margin s ≡ true
unfolding shows_apart is_below
both_tested margin least product s clear signs h =
    let a = lt (mul binary64 margin margin) least in
    let k = signs (and_second a (lt product zero_float) h) in
    rw (clear margin (and_first a (lt product zero_float) h), k.0, k.1)
