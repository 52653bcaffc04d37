-- What a function gives at all pairs of two lists, and at the pairs of one list that are not neighbours: the same results, each as often, where a list is put
-- in
-- another order, where its elements are turned, and where the lists trade places. A sum does not see the order. Assumes nothing.
use mathlib.Core.Path.{◌≡◌, refl, sym, ap, ap₂, ◌∙◌}
use mathlib.Core.List.Permᴰ
use mathlib.Core.List.{List, [], ◌∷◌, ◌++◌, map, reverse, reverse-cons, append_assoc, Permᴰ}
use Prim.Native.Nat.{ℕ, ◌+◌}
use native.Mathlib.Nat.{add_left_comm}
use lib.ListN.{drop}
use Rattle.arcstring_tally.specs.Pairs.{total}

-- ---- permutations

pub same_order : {Z : Type 0} {l m : List Z} → l ≡ m → Permᴰ l m
same_order {m = m} p = rw p (Permᴰ.refl m)

pub joined_orders : {Z : Type 0} {l l' m m' : List Z} → Permᴰ l l' → Permᴰ m m' → Permᴰ (l ++ m) (l' ++ m')
joined_orders {l' = l'} {m = m} p q = Permᴰ.trans (Permᴰ.append_right m p) (Permᴰ.append_left l' q)

-- two blocks change places
blocks_swap : {Z : Type 0} (l m n : List Z) → Permᴰ (l ++ (m ++ n)) (m ++ (l ++ n))
blocks_swap [] m n = Permᴰ.refl (m ++ n)
blocks_swap (x ∷ l) m n = Permᴰ.trans (Permᴰ.cons refl (blocks_swap l m n)) (Permᴰ.symm (Permᴰ.middle x m (l ++ n)))

pub map_same : {Y Z : Type 0} (h k : Y → Z) → ((y : Y) → h y ≡ k y) → (ys : List Y) → map h ys ≡ map k ys
map_same h k e [] = refl
map_same h k e (y ∷ ys) = ap₂ ◌∷◌ (e y) (map_same h k e ys)

pub total_order : {X : Type 0} (g : X → ℕ) {xs ys : List X} → Permᴰ xs ys → total g xs ≡ total g ys
unfolding total
total_order g Permᴰ.nil = refl
total_order g (Permᴰ.cons e d) = ap₂ ◌+◌ (ap g e) (total_order g d)
total_order g (Permᴰ.swap {a} {b} {l = l} e₁ e₂) = rw (← e₁, ← e₂) (add_left_comm (g a) (g b) (total g l))
total_order g (Permᴰ.trans d₁ d₂) = total_order g d₁ ∙ total_order g d₂

-- ---- all pairs of two lists

abbrev pub grid : {X Y Z : Type 0} → (X → Y → Z) → List X → List Y → List Z
grid g [] ys = []
grid g (x ∷ xs) ys = map (g x) ys ++ grid g xs ys

module _ {X Y Z : Type 0} where
  module _ (g : X → Y → Z) where
    pub grid_order : {xs xs' : List X} (ys : List Y) → Permᴰ xs xs' → Permᴰ (grid g xs ys) (grid g xs' ys)
    grid_order ys Permᴰ.nil = Permᴰ.nil
    grid_order ys (Permᴰ.cons {a = a} {b = b} e d) = joined_orders (same_order (ap (λ (x : X). map (g x) ys) e)) (grid_order ys d)
    grid_order ys (Permᴰ.swap {a = a} {b = b} {l = l} e₁ e₂) = rw (← e₁, ← e₂) (blocks_swap (map (g a) ys) (map (g b) ys) (grid g l ys))
    grid_order ys (Permᴰ.trans d₁ d₂) = Permᴰ.trans (grid_order ys d₁) (grid_order ys d₂)

    pub grid_turned : (k : X → X) → ((x : X) (y : Y) → g (k x) y ≡ g x y) → (xs : List X) (ys : List Y) → grid g (map k xs) ys ≡ grid g xs ys
    grid_turned k e [] ys = refl
    grid_turned k e (x ∷ xs) ys = ap₂ ◌++◌ (map_same (g (k x)) (g x) (e x) ys) (grid_turned k e xs ys)

    no_columns : (xs : List X) → Permᴰ (grid g xs []) []
    no_columns [] = Permᴰ.nil
    no_columns (x ∷ xs) = no_columns xs

    one_column : (y : Y) (xs : List X) (ys : List Y) → Permᴰ (grid g xs (y ∷ ys)) (map (λ (x : X). g x y) xs ++ grid g xs ys)
    one_column y [] ys = Permᴰ.nil
    one_column y (x ∷ xs) ys =
        Permᴰ.cons refl
        (Permᴰ.trans (Permᴰ.append_left (map (g x) ys) (one_column y xs ys)) (blocks_swap (map (g x) ys) (map (λ (w : X). g w y) xs) (grid g xs ys)))

    columns : (xs : List X) (ys : List Y) → Permᴰ (grid g xs ys) (grid (λ (y : Y) (x : X). g x y) ys xs)
    columns xs [] = no_columns xs
    columns xs (y ∷ ys) = Permᴰ.trans (one_column y xs ys) (Permᴰ.append_left (map (λ (x : X). g x y) xs) (columns xs ys))

  grid_same : (g h : X → Y → Z) → ((x : X) (y : Y) → g x y ≡ h x y) → (xs : List X) (ys : List Y) → grid g xs ys ≡ grid h xs ys
  grid_same g h e [] ys = refl
  grid_same g h e (x ∷ xs) ys = ap₂ ◌++◌ (map_same (g x) (h x) (e x) ys) (grid_same g h e xs ys)

pub grid_traded : {X Z : Type 0} (g : X → X → Z) → ((x y : X) → g y x ≡ g x y) → (xs ys : List X) → Permᴰ (grid g ys xs) (grid g xs ys)
grid_traded {X} g e xs ys = Permᴰ.trans (columns g ys xs) (same_order (grid_same (λ (x y : X). g y x) g e xs ys))

-- ---- the pairs of one list that are not neighbours: each with those after the next one

abbrev pub spaced : {X Z : Type 0} → (X → X → Z) → List X → List Z
spaced g [] = []
spaced g (x ∷ xs) = map (g x) (drop 1 xs) ++ spaced g xs

module _ {X Z : Type 0} (g : X → X → Z) where
  drop-map : {Y : Type 0} (k : X → Y) (xs : List X) → drop 1 (map k xs) ≡ map k (drop 1 xs)
  drop-map k [] = refl
  drop-map k (x ∷ xs) = refl

  map_turned : (h : X → Z) (k : X → X) → ((x : X) → h (k x) ≡ h x) → (xs : List X) → map h (map k xs) ≡ map h xs
  map_turned h k e [] = refl
  map_turned h k e (x ∷ xs) = ap₂ ◌∷◌ (e x) (map_turned h k e xs)

  pub spaced_turned : (k : X → X) → ((x y : X) → g (k x) y ≡ g x y) → ((x y : X) → g x (k y) ≡ g x y) → (xs : List X) → spaced g (map k xs) ≡ spaced g xs
  spaced_turned k e f [] = refl
  spaced_turned k e f (x ∷ xs) =
      ap₂ ◌++◌
      (ap (map (g (k x))) (drop-map k xs) ∙ map_turned (g (k x)) k (f (k x)) (drop 1 xs) ∙ map_same (g (k x)) (g x) (e x) (drop 1 xs))
      (spaced_turned k e f xs)

  drop_last : (b a : X) (xs : List X) → drop 1 (xs ++ (b ∷ []) ++ (a ∷ [])) ≡ drop 1 (xs ++ (b ∷ [])) ++ (a ∷ [])
  drop_last b a [] = refl
  drop_last b a (x ∷ xs) = refl

  map_snoc : (h : X → Z) (xs : List X) (a : X) → map h (xs ++ (a ∷ [])) ≡ map h xs ++ (h a ∷ [])
  map_snoc h [] a = refl
  map_snoc h (x ∷ xs) a = ap (λ (l : List Z). h x ∷ l) (map_snoc h xs a)

  -- one more element at the end: it is paired with all but the one before it
  spaced_last : (xs : List X) (b a : X) → Permᴰ (spaced g (xs ++ (b ∷ []) ++ (a ∷ []))) (map (λ (x : X). g x a) xs ++ spaced g (xs ++ (b ∷ [])))
  spaced_last [] b a = Permᴰ.nil
  spaced_last (x ∷ xs) b a =
      let l = map (g x) (drop 1 (xs ++ (b ∷ []))) in
      let m = map (λ (y : X). g y a) xs in
      let n = spaced g (xs ++ (b ∷ [])) in
      Permᴰ.trans
      (same_order (ap (λ (r : List Z). r ++ spaced g (xs ++ (b ∷ []) ++ (a ∷ [])))
      (ap (map (g x)) (drop_last b a xs) ∙ map_snoc (g x) (drop 1 (xs ++ (b ∷ []))) a)
      ∙ append_assoc l (g x a ∷ []) (spaced g (xs ++ (b ∷ []) ++ (a ∷ [])))))
      (Permᴰ.trans (Permᴰ.middle (g x a) l (spaced g (xs ++ (b ∷ []) ++ (a ∷ []))))
      (Permᴰ.cons refl (Permᴰ.trans (Permᴰ.append_left l (spaced_last xs b a)) (blocks_swap l m n))))

  pub spaced_reversed : ((x y : X) → g y x ≡ g x y) → (xs : List X) → Permᴰ (spaced g (reverse xs)) (spaced g xs)
  spaced_reversed e [] = Permᴰ.nil
  spaced_reversed e (a ∷ []) = Permᴰ.nil
  spaced_reversed e (a ∷ b ∷ xs) =
      Permᴰ.trans (same_order (ap (spaced g) (reverse-cons a (b ∷ xs) ∙ ap (λ (l : List X). l ++ (a ∷ [])) (reverse-cons b xs))))
      (Permᴰ.trans (spaced_last (reverse xs) b a)
      (joined_orders
      (Permᴰ.trans (same_order (map_same (λ (x : X). g x a) (g a) (e a) (reverse xs))) (Permᴰ.map (g a) (Permᴰ.reverse xs)))
      (Permᴰ.trans (same_order (ap (spaced g) (sym (reverse-cons b xs)))) (spaced_reversed e (b ∷ xs)))))
