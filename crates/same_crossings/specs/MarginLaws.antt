-- What is claimed of calls on the same strings at two margins: the listings write the same points, which are what is held against the Rust, and a wider margin
-- makes pairs grazing and does nothing else to them. Of single pairs arcstring_pair's PairLaws.antt says it. Definitions only. The proofs are in
-- `proofs/Margins.antt`.
use Rattle.std.specs.Prelude.{◌≡◌, Bool, true, List, ℕ, ◌≤◌, Float}
use Rattle.std.specs.Float.Ieee.{le}
use Rattle.arcstring_check.specs.Answer.{answered}
use Rattle.arcstring_check.specs.Check.{margin_check}
use Rattle.arcstring.specs.Leg.{Leg}
use Rattle.arcstring_tally.specs.declared.counts.Counts.{Counts}
use Rattle.arcstring_listing.specs.Listing.{Listing, counted, crossings, leg_crossings, listed_floats}
use Rattle.arcstring_self.specs.SelfListing.{self_crossings}

-- ---- the points

-- At any two margins that are not refused each listing is refused alike or writes the same points, into the same room: the margin changes their marks alone.
pub record PointsStay (m n : Float) : Type 0 where
  pub of_two : (a : List Float) (a_closed : Bool) (b : List Float) (b_closed : Bool) (p q : ℕ)
      → listed_floats (crossings a a_closed b b_closed m p q) ≡ listed_floats (crossings a a_closed b b_closed n p q)
  pub of_leg : (arc : Leg) (v : List Float) (closed : Bool) (p q : ℕ)
      → listed_floats (leg_crossings arc v closed m p q) ≡ listed_floats (leg_crossings arc v closed n p q)
  pub of_self : (v : List Float) (p q : ℕ) → listed_floats (self_crossings v m p q) ≡ listed_floats (self_crossings v n p q)

abbrev pub ListedPointsStay : Type 0
ListedPointsStay = (m n : Float) → margin_check m ≡ 0 → margin_check n ≡ 0 → PointsStay m n

-- ---- the counts

-- the counts c at a margin, and d at a wider one
pub record Wider (c d : Counts) : Type 0 where
  pub more_grazing : c.grazing ≤ d.grazing
  pub fewer_clean : d.clean ≤ c.clean
  pub fewer_end : d.end ≤ c.end
  pub fewer_apart : d.apart ≤ c.apart

pub record CountsWiden (m n : Float) : Type 0 where
  pub of_two : (a : List Float) (a_closed : Bool) (b : List Float) (b_closed : Bool) (c d : Counts) → counted a a_closed b b_closed m ≡ answered c
      → counted a a_closed b b_closed n ≡ answered d → Wider c d
  pub of_leg : (arc : Leg) (v : List Float) (closed : Bool) (p q r s : ℕ) (l k : Listing) → leg_crossings arc v closed m p q ≡ answered l
      → leg_crossings arc v closed n r s ≡ answered k → Wider l.counts k.counts
  pub of_self : (v : List Float) (p q r s : ℕ) (l k : Listing) → self_crossings v m p q ≡ answered l → self_crossings v n r s ≡ answered k
      → Wider l.counts k.counts

abbrev pub WiderMarginWidens : Type 0
WiderMarginWidens = (m n : Float) → le m n ≡ true → CountsWiden m n
