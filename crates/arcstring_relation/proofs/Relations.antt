-- What decides `crosses`, by the vertices along a string and the pairs that keep a point; and `contains` as `within` with the strings traded. Assumes
-- nothing.
use mathlib.Core.Path.{◌≡◌, refl, sym, ap, ◌∙◌}
use mathlib.Core.Bool.{Bool, true, false, not, ◌&&◌, and_assoc}
use Prim.Native.Nat.{ℕ, zero, suc}
use lib.Dec.{ltb}
use lib.ListN.{length}
use Rattle.arcstring_check.specs.Answer.{Answer, answered, unless_refused}
use Rattle.arcstring_check.specs.Check.{stored_check, no_margin}
use Rattle.arcstring.specs.Points.{points}
use Rattle.arcstring.specs.Leg.{legs}
use Rattle.arcstring_tally.specs.declared.inner.tally.Tally.{Tally}
use Rattle.arcstring_tally.specs.Pairs.{pairs_between, kept_marks}
use Rattle.arcstring_tally.specs.Tally.{no_tally, tally_on}
use Rattle.arcstring_tally.proofs.Tallies.{tally_kept}
use Rattle.arcstring_listing.specs.Listing.{visited}
use Rattle.arcstring_along.specs.declared.inner.stored.Stored.{Stored}
use Rattle.arcstring_along.specs.OnString.{stored, string_of}
use Rattle.arcstring_against.specs.Against.{all_along, within_string, apart}
use Rattle.arcstring_relation.specs.Relation.{crosses_string, within, contains}
use Rattle.arcstring_relation.specs.RelationLaws.{verdict_of, ContainsIsWithin}

-- ---- `crosses`: x whether neither string is within the other

module _ (a b : Stored) (x : Bool) (known : x ≡ apart (string_of a) (string_of b)) where
  crosses_by : (t : Bool) → x ≡ t
      → crosses_string (string_of a) (string_of b) ≡ t && ltb 0 (length (kept_marks (visited no_margin a.v.now a.closed b.v.now b.closed)))
  unfolding crosses_string visited
  crosses_by t e =
      let kept : Bool = ltb 0 (length (kept_marks (pairs_between no_margin (legs (points a.v.now) a.closed) (legs (points b.v.now) b.closed)))) in
      sym (and_assoc (not (within_string (string_of a) (string_of b))) (not (within_string (string_of b) (string_of a))) kept)
      ∙ ap (λ (y : Bool). y && kept) (sym known ∙ e)

  pub not-apart : x ≡ false → false ≡ crosses_string (string_of a) (string_of b)
  not-apart e = sym (crosses_by false e)

  pub some_kept : x ≡ true → (t : Tally) → t ≡ tally_on no_tally (visited no_margin a.v.now a.closed b.v.now b.closed)
      → ltb 0 t.kept ≡ crosses_string (string_of a) (string_of b)
  some_kept e t h = ap (ltb 0) (tally_kept t (visited no_margin a.v.now a.closed b.v.now b.closed) h) ∙ sym (crosses_by true e)

-- ---- `contains` is `within` with the strings traded

-- three checks in another order, the third first
third_first : (k m n : ℕ) (x : Answer Bool)
    → verdict_of (unless_refused k (unless_refused m (unless_refused n x))) ≡ verdict_of (unless_refused n (unless_refused k (unless_refused m x)))
third_first zero zero zero x = refl
third_first zero zero (suc n) x = refl
third_first zero (suc m) zero x = refl
third_first zero (suc m) (suc n) x = refl
third_first (suc k) m zero x = refl
third_first (suc k) m (suc n) x = refl

pub contains_is_within : ContainsIsWithin
unfolding contains within
contains_is_within a a_near a_closed b =
    third_first (stored_check a) (stored_check a_near) (stored_check b) (answered (all_along (points b) (stored a a_near a_closed)))
