-- Pieces of which one is cut in two: both parts are long, the points put in link them, and taken out again they leave what there was. Assumes nothing.
use mathlib.Core.Path.{◌≡◌, refl, sym, ap, ap₂, ◌∙◌}
use mathlib.Core.List.{List, [], ◌∷◌, ◌++◌, append_assoc, Memᴰ}
use Prim.Native.Nat.{ℕ, suc, ◌+◌, ◌-◌, ◌≤◌, ◌<◌}
use native.Mathlib.Numerals.{add-one}
use native.Mathlib.Omega.{arith}
use lib.ListN.{length, take, drop, length-append, length-drop, take-append-drop}
use lib.Seq.{length-take-le, take_at, drop_at, take-add, take-append-le, take-take, drop-drop}
use Rattle.arcstring_mark_cut.specs.CutAtMarks.{part_before, part_after}
use Rattle.arcstring_mark_cut.specs.CutLaws.{Long, Linked, without_cuts}

-- a piece ends with the vertex with which another begins, and that is one of the marks
abbrev Link : {A : Type 0} → List A → List A → List A → Type 0
Link {A} marks xs ys = (x : A) × Memᴰ x marks × (drop (length xs - 1) xs ≡ x ∷ []) × (take 1 ys ≡ x ∷ [])

-- ---- taken out again: a point after the first k vertices, and whatever the next piece begins with

module _ {A : Type 0} (xs : List A) (k : ℕ) (low : k < length xs) where
  without_split : (after : List (List A)) → take k xs ++ without_cuts (drop k xs ∷ after) ≡ without_cuts (xs ∷ after)
  without_split [] = take-append-drop k xs
  without_split (ys ∷ after) =
      let e : k + (length (drop k xs) - 1) ≡ length xs - 1 = omega (arith, length-drop k xs) in
      sym (append_assoc (take k xs) (take (length (drop k xs) - 1) (drop k xs)) (without_cuts (drop 1 ys ∷ after)))
      ∙ ap (λ (zs : List A). zs ++ without_cuts (drop 1 ys ∷ after)) (sym (take-add k (length (drop k xs) - 1) xs) ∙ ap (λ (n : ℕ). take n xs) e)

  without_point : (x : A) (ys : List A) (after : List (List A)) → drop 1 ys ≡ drop k xs
      → without_cuts ((take k xs ++ (x ∷ [])) ∷ ys ∷ after) ≡ without_cuts (xs ∷ after)
  without_point x ys after e =
      let front : length (take k xs) ≡ k = length-take-le k xs (omega arith) in
      let one : length (take k xs) ≡ length (take k xs ++ (x ∷ [])) - 1 = omega (arith, length-append (take k xs) (x ∷ [])) in
      ap₂ (λ (zs us : List A). zs ++ without_cuts (us ∷ after)) (take_at (take k xs) (x ∷ []) (length (take k xs ++ (x ∷ [])) - 1) one) e
      ∙ without_split after

-- ---- a piece that is cut at leg i

-- the first part without its first vertex
before_rest : {A : Type 0} (x : A) (i : ℕ) (xs : List A) → 0 < length xs → drop 1 (part_before x i xs) ≡ take i (drop 1 xs) ++ (x ∷ [])
unfolding part_before
before_rest x i [] h = absurd (omega arith)
before_rest x i (y ∷ xs) h = rw add-one

module _ {A : Type 0} (x : A) (i : ℕ) (xs : List A) (low : i + 1 < length xs) where
  front_long : length (take (i + 1) xs) ≡ i + 1
  front_long = length-take-le (i + 1) xs (omega arith)

  -- the first part begins as the piece did, and ends with the point; the second begins with the point, and ends as the piece did
  before_begins : take 1 (part_before x i xs) ≡ take 1 xs
  unfolding part_before
  before_begins = take-append-le 1 (take (i + 1) xs) (x ∷ []) (omega (arith, front_long)) ∙ take-take 1 (i + 1) xs (omega arith)

  after_begins : take 1 (part_after x i xs) ≡ x ∷ []
  unfolding part_after
  after_begins = refl

  pub length_before : length (part_before x i xs) ≡ i + 2
  unfolding part_before
  length_before = omega (arith, length-append (take (i + 1) xs) (x ∷ []), front_long)

  pub length_after : length (part_after x i xs) ≡ length xs - i
  unfolding part_after
  length_after = omega (arith, length-drop (i + 1) xs)

  before_ends : drop (length (part_before x i xs) - 1) (part_before x i xs) ≡ x ∷ []
  unfolding part_before
  before_ends = drop_at (take (i + 1) xs) (x ∷ []) (length (part_before x i xs) - 1) (omega (arith, length_before, front_long))

  after_ends : drop (length (part_after x i xs) - 1) (part_after x i xs) ≡ drop (length xs - 1) xs
  unfolding part_after
  after_ends =
      let k = length xs - i - 2 in
      let e : length (part_after x i xs) - 1 ≡ suc k = omega (arith, length_after) in
      let l : i + 1 + k ≡ length xs - 1 = omega arith in
      ap (λ (n : ℕ). drop n (part_after x i xs)) e ∙ drop-drop k (i + 1) xs ∙ ap (λ (n : ℕ). drop n xs) l

  -- ---- among other pieces: each law by the pieces before it

  long_among : (before after : List (List A)) → Long (before ++ (xs ∷ after)) → Long (before ++ (part_before x i xs ∷ part_after x i xs ∷ after))
  long_among [] after h = (omega (arith, length_before), (omega (arith, length_after), h.1))
  long_among (ys ∷ before) after h = (h.0, long_among before after h.1)

  -- a piece that stands alone is long, since it has the leg
  pub long_cut : (before after : List (List A)) → (2 ≤ length (before ++ (xs ∷ after)) → Long (before ++ (xs ∷ after)))
      → Long (before ++ (part_before x i xs ∷ part_after x i xs ∷ after))
  long_cut [] [] h = long_among [] [] (omega arith, tt)
  long_cut [] (ys ∷ after) h = long_among [] (ys ∷ after) (h (omega arith))
  long_cut (ys ∷ before) after h = long_among (ys ∷ before) after (h (omega (arith, length-append before (xs ∷ after))))

  module _ (marks : List A) (mark : Memᴰ x marks) where
    parts_linked : Link marks (part_before x i xs) (part_after x i xs)
    parts_linked = (x, mark, before_ends, after_begins)

    linked_first : (after : List (List A)) → Linked marks (xs ∷ after) → Linked marks (part_before x i xs ∷ part_after x i xs ∷ after)
    linked_first [] h = (parts_linked, tt)
    linked_first (ys ∷ after) h = (parts_linked, ((h.0.0, h.0.1, after_ends ∙ h.0.2, h.0.3), h.1))

    pub linked_cut : (before after : List (List A)) → Linked marks (before ++ (xs ∷ after))
        → Linked marks (before ++ (part_before x i xs ∷ part_after x i xs ∷ after))
    linked_cut [] after h = linked_first after h
    linked_cut (ys ∷ []) after h = ((h.0.0, h.0.1, h.0.2, before_begins ∙ h.0.3), linked_first after h.1)
    linked_cut (ys ∷ zs ∷ before) after h = (h.0, linked_cut (zs ∷ before) after h.1)

  without_first : (after : List (List A)) → without_cuts (part_before x i xs ∷ part_after x i xs ∷ after) ≡ without_cuts (xs ∷ after)
  unfolding part_before part_after
  without_first after = without_point xs (i + 1) (omega arith) x (part_after x i xs) after refl

  without_later : (ys : List A) (before after : List (List A))
      → without_cuts (ys ∷ (before ++ (part_before x i xs ∷ part_after x i xs ∷ after))) ≡ without_cuts (ys ∷ (before ++ (xs ∷ after)))
  unfolding part_after
  without_later ys [] after =
      let rest : length (drop 1 xs) ≡ length xs - 1 = length-drop 1 xs in
      let same : 1 + i ≡ i + 1 = omega arith in
      ap (λ (r : List A). take (length ys - 1) ys ++ r)
      (ap (λ (zs : List A). without_cuts (zs ∷ part_after x i xs ∷ after)) (before_rest x i xs (omega arith))
      ∙ without_point (drop 1 xs) i (omega arith) x (part_after x i xs) after (sym (drop-drop i 1 xs ∙ ap (λ (n : ℕ). drop n xs) same)))
  without_later ys (zs ∷ before) after = ap (λ (r : List A). take (length ys - 1) ys ++ r) (without_later (drop 1 zs) before after)

  pub without_cut : (before after : List (List A))
      → without_cuts (before ++ (part_before x i xs ∷ part_after x i xs ∷ after)) ≡ without_cuts (before ++ (xs ∷ after))
  without_cut [] after = without_first after
  without_cut (ys ∷ before) after = without_later ys before after

  pub count_cut : (before after : List (List A)) → length (before ++ (part_before x i xs ∷ part_after x i xs ∷ after)) ≡ length (before ++ (xs ∷ after)) + 1
  count_cut [] after = omega arith
  count_cut (ys ∷ before) after = omega (arith, count_cut before after)
