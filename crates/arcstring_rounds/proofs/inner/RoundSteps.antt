-- What a round's answer decides, for code that works on the first m elements of one list and has the round's in another. Assumes nothing.
use mathlib.Core.Path.{◌≡◌, sym, ap, ◌∙◌}
use mathlib.Core.Bool.{Bool}
use mathlib.Core.List.{List, map}
use Prim.Native.Nat.{ℕ, ◌≤◌, ◌<◌}
use native.Mathlib.Omega.{arith}
use lib.ListN.{length, take, drop}
use lib.Seq.{length-take-le, take_at}
use Rattle.sphericalpoint.specs.declared.SphericalPoint.{SphericalPoint}
use Rattle.arcstring_check.specs.Answer.{Answer, refused, answered}
use Rattle.arcstring.specs.Positions.{Within}
use Rattle.arcstring.specs.Splice.{splice}
use Rattle.arcstring.proofs.Numbered.{within_less}
use Rattle.arcstring.proofs.Splices.{splice_front}
use Rattle.arcstring_rounds.specs.Rounds.{unnecessary_positions, remove_all, simplified}
use Rattle.arcstring_rounds.proofs.inner.Rounds.{round_refuses, as_many_left, fewer_left, few_stay}
use Rattle.arcstring_rounds.proofs.Simplified.{round_keeps, simplified_keeps}

module _ {A : Type 0} (pt : A → SphericalPoint) (closed : Bool) (m : ℕ) (at : List A) (whole : Answer (List A))
    (stands : m ≤ length at) (more : 2 < m) (before : simplified pt closed (take m at) ≡ whole) where
  abbrev Left : Answer (List A) → Type 0
  Left a = a ≡ remove_all (unnecessary_positions (map pt (take m at)) closed) (take m at)

  long : length (take m at) ≡ m
  long = length-take-le m at stands

  many : 2 < length (take m at)
  many = omega (arith, long)

  pub refused_round : (r : ℕ) → Left (refused r) → refused r ≡ whole
  refused_round r left = sym (round_refuses pt closed (take m at) many r (sym left)) ∙ before

  -- the first `kept` elements of `next` are left
  module _ (next : List A) (kept : ℕ) (room : kept ≤ length next) (left : Left (answered (take kept next))) where
    pub last_round : kept ≡ m → answered (take m at) ≡ whole
    last_round h = sym (as_many_left pt closed (take m at) many (take kept next) (sym left) (length-take-le kept next room ∙ h ∙ sym long)) ∙ before

    pub next_round : (kept ≡ m → ⊥) → simplified pt closed (take kept next) ≡ whole
    next_round h =
        sym (fewer_left pt closed (take m at) many (take kept next) (sym left) (λ e. h (sym (length-take-le kept next room) ∙ e ∙ long))) ∙ before

-- they are copied to the start of the list
pub copied_front : {A : Type 0} (kept : ℕ) (next old new : List A) → kept ≤ length next → new ≡ splice old 0 (take kept next) → take kept new ≡ take kept next
copied_front kept next old new room copied =
    let long : length (take kept next) ≡ kept = length-take-le kept next room in
    ap (take kept) (copied ∙ splice_front old kept (take kept next) long) ∙ take_at (take kept next) (drop kept old) kept long

-- two elements at most are left
pub no_more_rounds : {A : Type 0} (pt : A → SphericalPoint) (closed : Bool) (m : ℕ) (at : List A) (whole : Answer (List A))
    → m ≤ length at → m ≤ 2 → simplified pt closed (take m at) ≡ whole → answered (take m at) ≡ whole
no_more_rounds pt closed m at whole stands few before = sym (few_stay pt closed (take m at) (omega (arith, length-take-le m at stands))) ∙ before

-- ---- positions stay within

module _ (n : ℕ) (pt : ℕ → SphericalPoint) (closed : Bool) where
  pub round_within : (xs ys : List ℕ) → remove_all (unnecessary_positions (map pt xs) closed) xs ≡ answered ys → Within n xs → Within n ys
  round_within xs ys h all = round_keeps pt (Within n) (λ k zs low high z. within_less n k zs z high) closed xs ys h all

  pub simplified-within : (xs ys : List ℕ) → simplified pt closed xs ≡ answered ys → Within n xs → Within n ys
  simplified-within xs ys h all = simplified_keeps pt (Within n) (λ k zs low high z. within_less n k zs z high) closed xs ys h all
