-- What the tests of `equals` and `overlaps` decide, one after another. Assumes nothing.
use mathlib.Core.Path.{◌≡◌, refl, sym, ap, ◌∙◌}
use mathlib.Core.Bool.{Bool, true, false}
use Prim.Native.Nat.{ℕ, ◌≤◌, ◌<◌}
use lib.Dec.{ltb}
use lib.ListN.{length}
use borrow.Author.Tests.{lt-ltb, le-ltb}
use Rattle.arcstring_check.specs.Answer.{Answer, refused, answered, and_then, map_answer, pick}
use Rattle.arcstring.specs.Points.{ArcString, points, copied}
use Rattle.arcstring_check.proofs.Answers.{then_refused, then_answered}
use Rattle.arcstring_along.specs.declared.inner.stored.Stored.{Stored}
use Rattle.arcstring_along.specs.OnString.{string_of}
use Rattle.arcstring_against.specs.Against.{equal_strings}
use Rattle.arcstring_against.proofs.Against.{fewer, no_fewer}
use Rattle.arcstring_equals.specs.Simplified.{or_else, simplified_string, equals_longer, equals_simplified, equals_string, same_simplified, overlaps_apart}
use Rattle.arcstring_equals.specs.Simplified.{overlaps_string}

-- ---- a simplified copy against the longer string; x whether they are equal at once

module _ (short longer : ArcString) (x : Bool) (known : x ≡ equal_strings short longer) where
  longer_by : (t : Bool) → x ≡ t → equals_longer short longer ≡ or_else t (map_answer (equal_strings short) (simplified_string (copied longer)))
  unfolding equals_longer
  longer_by t e = ap (λ (b : Bool). or_else b (map_answer (equal_strings short) (simplified_string (copied longer)))) (sym known ∙ e)

  pub longer_at_once : x ≡ true → answered true ≡ equals_longer short longer
  longer_at_once e = sym (longer_by true e)

  pub longer_refused : (n : ℕ) → x ≡ false → simplified_string (copied longer) ≡ refused n → refused n ≡ equals_longer short longer
  longer_refused n e h = sym (longer_by false e ∙ ap (map_answer (equal_strings short)) h)

  pub longer_answered : (l : ArcString) (y : Bool) → x ≡ false → simplified_string (copied longer) ≡ answered l → y ≡ equal_strings short l
      → answered y ≡ equals_longer short longer
  longer_answered l y e h hy = ap answered hy ∙ sym (longer_by false e ∙ ap (map_answer (equal_strings short)) h)

-- ---- the shorter one simplified first

module _ (shorter longer : ArcString) where
  pub shorter_refused : (n : ℕ) → simplified_string (copied shorter) ≡ refused n → refused n ≡ equals_simplified shorter longer
  unfolding equals_simplified
  shorter_refused n h = sym (then_refused (simplified_string (copied shorter)) (λ (s : ArcString). equals_longer s longer) n h)

  pub shorter_answered : (s : ArcString) (r : Answer Bool) → simplified_string (copied shorter) ≡ answered s → r ≡ equals_longer s longer
      → r ≡ equals_simplified shorter longer
  unfolding equals_simplified
  shorter_answered s r h hr = hr ∙ sym (then_answered (simplified_string (copied shorter)) (λ (t : ArcString). equals_longer t longer) s h)

-- ---- equals; x whether the strings are equal at once

module _ (a b : Stored) (x : Bool) (known : x ≡ equal_strings (string_of a) (string_of b)) where
  equals_by : (t u : Bool) → x ≡ t → ltb (length (points a.v.now)) (length (points b.v.now)) ≡ u
      → or_else t (pick u (equals_simplified (string_of a) (string_of b)) (equals_simplified (string_of b) (string_of a)))
      ≡ equals_string (string_of a) (string_of b)
  unfolding equals_string
  equals_by t u e h =
      λ i. or_else ((sym e ∙ known) i) (pick (sym h i) (equals_simplified (string_of a) (string_of b)) (equals_simplified (string_of b) (string_of a)))

  pub equal_at_once : x ≡ true → answered true ≡ equals_string (string_of a) (string_of b)
  equal_at_once e = equals_by true (ltb (length (points a.v.now)) (length (points b.v.now))) e refl

  pub left_shorter : x ≡ false → length a.v.now < length b.v.now → equals_simplified (string_of a) (string_of b) ≡ equals_string (string_of a) (string_of b)
  left_shorter e h = equals_by false true e (lt-ltb _ _ (fewer a b h))

  pub left_no_shorter : x ≡ false → length b.v.now ≤ length a.v.now → equals_simplified (string_of b) (string_of a) ≡ equals_string (string_of a) (string_of b)
  left_no_shorter e h = equals_by false false e (le-ltb _ _ (no_fewer a b h))

-- ---- both copies of overlaps

module _ (a b : ArcString) where
  pub first_refused : (n : ℕ) → simplified_string (copied a) ≡ refused n → refused n ≡ same_simplified a b
  unfolding same_simplified
  first_refused n h = sym (then_refused (simplified_string (copied a)) (λ (s : ArcString). and_then (simplified_string (copied b)) (equals_string s)) n h)

  module _ (s : ArcString) (first : simplified_string (copied a) ≡ answered s) where
    after_first : same_simplified a b ≡ and_then (simplified_string (copied b)) (equals_string s)
    unfolding same_simplified
    after_first = then_answered (simplified_string (copied a)) (λ (u : ArcString). and_then (simplified_string (copied b)) (equals_string u)) s first

    pub second_refused : (n : ℕ) → simplified_string (copied b) ≡ refused n → refused n ≡ same_simplified a b
    second_refused n h = sym (after_first ∙ then_refused (simplified_string (copied b)) (equals_string s) n h)

    pub both_answered : (t : ArcString) (r : Answer Bool) → simplified_string (copied b) ≡ answered t → r ≡ equals_string s t → r ≡ same_simplified a b
    both_answered t r h hr = hr ∙ sym (after_first ∙ then_answered (simplified_string (copied b)) (equals_string s) t h)

-- what the copies answered
module _ (a b : ArcString) where
  by_copies : (r : Answer Bool) → r ≡ same_simplified a b → and_then r (λ (same : Bool). pick same (overlaps_apart a b) (answered false)) ≡ overlaps_string a b
  unfolding overlaps_string
  by_copies r h = ap (λ (x : Answer Bool). and_then x (λ (same : Bool). pick same (overlaps_apart a b) (answered false))) h

  pub copies_refused : (n : ℕ) → refused n ≡ same_simplified a b → refused n ≡ overlaps_string a b
  copies_refused n = by_copies (refused n)

  pub copies_told : (x t : Bool) → answered x ≡ same_simplified a b → x ≡ t → pick t (overlaps_apart a b) (answered false) ≡ overlaps_string a b
  copies_told x t h e = by_copies (answered t) (ap answered (sym e) ∙ h)
