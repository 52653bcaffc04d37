-- A walk: what it has kept so far, pair after pair, how its room goes on, and what it has counted. Assumes nothing.
use mathlib.Core.Path.{◌≡◌, refl, ap, ◌∙◌}
use mathlib.Core.List.{List, [], ◌∷◌, ◌++◌, filter_map}
use Prim.Native.Nat.{ℕ, zero, suc, ◌+◌, ◌-◌, ◌*◌, ◌<◌, ◌≤◌}
use native.Mathlib.Omega.{arith}
use lib.ListN.{length, replicate}
use lib.Ieee.{Float}
use Rattle.arcstring_pair.specs.declared.pair.Pair.{Pair}
use Rattle.arcstring_pair.specs.declared.pair.Pair.TheVariants.{Apart}
use Rattle.arcstring.specs.Leg.{Leg, leg_at}
use Rattle.arcstring_crossing.specs.Plane.{AllApart}
use Rattle.arcstring_tally.specs.declared.inner.tally.Tally.{Tally}
use Rattle.arcstring_tally.specs.Keep.{KeepLaws}
use Rattle.arcstring_tally.specs.Pairs.{Mark, kept_marks}
use Rattle.arcstring_tally.specs.Tally.{no_tally, tally_on}
use Rattle.arcstring_visit.specs.Visit.{row_pairs, most_pairs}
use Rattle.arcstring_visit.proofs.Rows.{row_next, row_none}
use Rattle.arcstring_tally.proofs.Tallies.{counted_none, kept_append, kept_bound, aparts_keep_none}

-- there is room for what is still to be kept, and with it what is kept so far is what all the pairs keep
pub record KeepsOn {S : Type 0} (room : S → List Mark → ℕ → Type 0) (written : List Mark → ℕ → S → S → Type 0) (all : List Pair) (at : ℕ) (s : S)
    (rest : List Pair) (next : ℕ) (t : S) : Type 0 where
  pub room_on : room t (kept_marks rest) next
  pub written_on : (u : S) → written (kept_marks rest) next t u → written (kept_marks all) at s u

kept_on : (t r : Tally) (ps : List Pair) → r ≡ tally_on t ps → r.kept ≡ t.kept + length (kept_marks ps)
unfolding tally_on
kept_on t r ps h = ap (λ (s : Tally). s.kept) h

marks_of : (rest ps qs : List Pair) → rest ≡ ps ++ qs → kept_marks rest ≡ kept_marks ps ++ kept_marks qs
marks_of rest ps qs h = ap kept_marks h ∙ kept_append ps qs

pub none_keep_none : (ps : List Pair) → ps ≡ [] → kept_marks ps ≡ []
unfolding kept_marks filter_map
none_keep_none ps h = ap kept_marks h

module _ {S : Type 0} {room : S → List Mark → ℕ → Type 0} {written : List Mark → ℕ → S → S → Type 0} (laws : KeepLaws room written) (all : List Pair)
    (at : ℕ) (s : S) where
  pub walk_start : room s (kept_marks all) at → KeepsOn room written all at s all at s
  walk_start r = record { room_on = r; written_on = λ u w. w }

  pub walk_room : (rest ps qs : List Pair) (next : ℕ) (t : S) → rest ≡ ps ++ qs → KeepsOn room written all at s rest next t → room t (kept_marks ps) next
  walk_room rest ps qs next t h k = laws.first t (kept_marks ps) (kept_marks qs) next (rw (← marks_of rest ps qs h) k.room_on)

  pub walk_on : (rest ps qs : List Pair) (c r : Tally) (t u : S) → rest ≡ ps ++ qs → KeepsOn room written all at s rest c.kept t → r ≡ tally_on c ps
      → written (kept_marks ps) c.kept t u → KeepsOn room written all at s qs r.kept u
  walk_on rest ps qs c r t u h k count w =
      let m = marks_of rest ps qs h in
      let all_room : room t (kept_marks ps ++ kept_marks qs) c.kept = rw (← m) k.room_on in
      rw (kept_on c r ps count)
      (record {
        room_on = laws.others t u (kept_marks ps) (kept_marks qs) c.kept all_room w;
        written_on = λ v x. k.written_on v (rw m (laws.both t u v (kept_marks ps) (kept_marks qs) c.kept all_room w x));
      })

  pub walk_done : (rest : List Pair) (next : ℕ) (t : S) → rest ≡ [] → KeepsOn room written all at s rest next t → written (kept_marks all) at s t
  walk_done rest next t h k = k.written_on t (rw (none_keep_none rest h) (laws.nothing next t))

  -- pairs that are all apart
  pub aparts_written : (m : ℕ) → all ≡ replicate m Apart → written (kept_marks all) at s s
  aparts_written m h = rw (h, aparts_keep_none m) (laws.nothing at s)

-- ---- a row whose pairs are all apart

module _ (margin : Float) (a : Leg) (v : List Float) (n : ℕ) (whole : length v ≡ 3 * n) (from to : ℕ) (short : to ≤ n)
    (apart : AllApart margin a v n from to) where
  rest_apart : (m k : ℕ) → to - k ≡ m → from ≤ k → row_pairs margin a v k to ≡ replicate m Apart
  rest_apart zero k e h = row_none margin a v k to (omega arith)
  rest_apart (suc m) k e h =
      let l : k < to = omega arith in
      row_next margin v n whole a (leg_at v n k) Apart k to l short refl (apart.each k h l)
      ∙ ap (λ (ps : List Pair). (Apart ∷ []) ++ ps) (rest_apart m (k + 1) (omega arith) (omega arith))

  pub row_apart : row_pairs margin a v from to ≡ replicate (to - from) Apart
  row_apart = rest_apart (to - from) from refl (omega arith)

-- ---- a tally from nothing, of all pairs of two strings

pub tallied : (t r : Tally) (ps qs : List Pair) → ps ≡ qs → t ≡ no_tally → r ≡ tally_on t ps → length ps ≤ most_pairs
    → (r ≡ tally_on no_tally qs) × (r.kept ≤ most_pairs)
unfolding tally_on
tallied t r ps qs same none h few =
    let e : r ≡ tally_on no_tally ps = h ∙ counted_none t ps none in
    (e ∙ ap (tally_on no_tally) same, omega (arith, ap (λ (s : Tally). s.kept) e, kept_bound ps))
