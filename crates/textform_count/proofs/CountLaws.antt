-- What is printed stays the same when A and B trade places, and when the rows of one of them stand in reverse, as `specs/CountLaws.antt` has it. Assumes
-- nothing.
use mathlib.Core.Path.{◌≡◌, sym, ap, ap₂, ◌∙◌}
use mathlib.Core.Bool.{Bool, true}
use mathlib.Core.List.Permᴰ
use mathlib.Core.List.{List, reverse}
use Prim.Native.Nat.{ℕ, ◌/◌, ◌%◌}
use native.Mathlib.Omega.{arith}
use lib.ListN.{length}
use lib.Ieee.{Float}
use Rattle.arcstring_check.specs.Answer.{answered, refused, unless_refused, pick}
use Rattle.arcstring.specs.Points.{ArcString, points, flat}
use Rattle.arcstring_check.specs.Check.{build_check, no_margin}
use Rattle.arcstring_build.specs.Build.{built_string}
use Rattle.arcstring_check.proofs.Answers.{pass, both_passed}
use Rattle.arcstring.proofs.Flat.{points-flat, flat-points}
use Rattle.arcstring_tally.specs.declared.counts.Counts.{Counts}
use Rattle.same_crossings.specs.BuiltChanges.{ClosesOnItself}
use Rattle.same_crossings.proofs.AcceptedAgain.{range_order, length_order}
use Rattle.same_crossings.proofs.BuiltChanges.{built_reversed, strings_trade}
use Rattle.textform.specs.Text.{reading, well_formed}
use Rattle.textform_count.specs.Print.{printed}
use Rattle.arcstring_check.proofs.Checks.{build_by_parts}
use Rattle.textform_count.specs.Count.{counts_between, count_built, count_state, output}
use Rattle.textform_count.specs.CountLaws.{PrintsTraded, in_a, in_b, PrintsReversed}
use Rattle.textform.proofs.inner.read.Triples.{whole_triples}

-- ---- the counts of two lists of points

between_traded : (s t : ArcString) → counts_between t s ≡ counts_between s t
unfolding counts_between
between_traded s t = strings_trade no_margin s t

module _ (a : List Float) (whole : length a % 3 ≡ 0) where
  check_reversed : build_check (flat (reverse (points a))) ≡ build_check a
  check_reversed =
      let d = Permᴰ.reverse (points a) in
      build_by_parts (flat (reverse (points a))) (flat (points a)) (length_order d) (range_order d)
      ∙ ap build_check (flat-points (length a / 3) a (omega arith))

  module _ (closes : ClosesOnItself (points a)) where
    between_reversed : (t : ArcString) → counts_between (built_string (points (flat (reverse (points a))))) t ≡ counts_between (built_string (points a)) t
    unfolding counts_between
    between_reversed t = rw (points-flat (reverse (points a))) (built_reversed no_margin (points a) closes t)

    first_reversed : (b : List Float) → count_built (flat (reverse (points a))) b ≡ count_built a b
    unfolding count_built
    first_reversed b =
        ap₂ (λ (n : ℕ) (c : Counts). unless_refused n (unless_refused (build_check b) (answered c))) check_reversed (between_reversed (built_string (points b)))

    second_reversed : (b : List Float) → count_built b (flat (reverse (points a))) ≡ count_built b a
    unfolding count_built
    second_reversed b =
        let s = built_string (points b) in
        let t = built_string (points a) in
        let u = built_string (points (flat (reverse (points a)))) in
        ap₂ (λ (n : ℕ) (c : Counts). unless_refused (build_check b) (unless_refused n (answered c))) check_reversed
        (between_traded u s ∙ between_reversed s ∙ sym (between_traded t s))

built_traded : (a b : List Float) (c : Counts) → count_built a b ≡ answered c → count_built b a ≡ answered c
unfolding count_built
built_traded a b c h =
    let s = built_string (points a) in
    let t = built_string (points b) in
    let r = both_passed (build_check a) (build_check b) (counts_between s t) c h in
    pass _ _ r.1 ∙ pass _ _ r.0 ∙ ap answered (between_traded s t ∙ r.2)

-- ---- what is printed

well_counted : (bytes : List ℕ) → well_formed (reading bytes) ≡ true → count_state (reading bytes) ≡ count_built (reading bytes).a (reading bytes).b
unfolding count_state
well_counted bytes e = ap (λ (w : Bool). pick w (count_built (reading bytes).a (reading bytes).b) (refused 8)) e

pub prints_traded : PrintsTraded
unfolding output
prints_traded x y h c e =
    let counts-x = sym (well_counted x h.well-formed.one) ∙ e in
    let counts-y = well_counted y h.well-formed.two ∙ ap₂ count_built h.first_is_second h.second_is_first in
    ap printed (counts-y ∙ built_traded (reading x).a (reading x).b c counts-x ∙ sym e)

pub prints_reversed : PrintsReversed
unfolding output
prints_reversed x y (in_a h) =
    let whole = whole_triples x h.well-formed.one in
    ap printed
    (well_counted y h.well-formed.two
    ∙ ap₂ count_built h.in_reverse h.as_before
    ∙ first_reversed (reading x).a whole.0 h.closes (reading x).b
    ∙ sym (well_counted x h.well-formed.one))
prints_reversed x y (in_b h) =
    let whole = whole_triples x h.well-formed.one in
    ap printed
    (well_counted y h.well-formed.two
    ∙ ap₂ count_built h.as_before h.in_reverse
    ∙ second_reversed (reading x).b whole.1 h.closes (reading x).a
    ∙ sym (well_counted x h.well-formed.one))
