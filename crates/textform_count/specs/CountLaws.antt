-- What is claimed of what the counting program prints: it is the same when A and B trade places, and when the rows of one of them stand in reverse; and what
-- the code keeps of the input is counted as the plain reading is. Definitions only. The proofs are `prints_traded` and `prints_reversed` of
-- `proofs/CountLaws.antt`, and `kept_counts` of `proofs/KeptCounts.antt`.
use Rattle.std.specs.Prelude.{◌≡◌, true, List, reverse, ℕ, Float}
use Rattle.arcstring_check.specs.Answer.{answered}
use Rattle.arcstring.specs.Points.{points, flat}
use Rattle.arcstring_tally.specs.declared.counts.Counts.{Counts}
use Rattle.same_crossings.specs.BuiltChanges.{ClosesOnItself}
use Rattle.textform.specs.Text.{State, reading, well_formed}
use Rattle.textform.specs.Kept.{kept_reading}
use Rattle.textform_count.specs.Count.{count_state, output}

-- two inputs in the text form
pub record BothWellFormed (x y : List ℕ) : Type 0 where
  pub one : well_formed (reading x) ≡ true
  pub two : well_formed (reading y) ≡ true

-- ---- A and B trade places

-- A's rows of the one are B's of the other
pub record Traded (x y : List ℕ) : Type 0 where
  pub well-formed : BothWellFormed x y
  pub first_is_second : (reading y).a ≡ (reading x).b
  pub second_is_first : (reading y).b ≡ (reading x).a

-- Where one is counted, the other prints the same. (Where both strings are refused, by different numbers, each input prints that of its own A.)
abbrev pub PrintsTraded : Type 0
PrintsTraded = (x y : List ℕ) → Traded x y → (c : Counts) → count_state (reading x) ≡ answered c → output y ≡ output x

-- ---- rows in reverse

abbrev pub rows_of_a : State → List Float
rows_of_a s = s.a

abbrev pub rows_of_b : State → List Float
rows_of_b s = s.b

-- The rows of one string stand in reverse, those of the other as they did. Of a string that closes, the first row and the last become the same vertex, as
-- they do if their floats are the same: else the other one of two nearly equal points is dropped, and the legs at that corner are other legs.
pub record RowsReversed (one other : State → List Float) (x y : List ℕ) : Type 0 where
  pub well-formed : BothWellFormed x y
  pub in_reverse : one (reading y) ≡ flat (reverse (points (one (reading x))))
  pub as_before : other (reading y) ≡ other (reading x)
  pub closes : ClosesOnItself (points (one (reading x)))

pub data OneReversed (x y : List ℕ) : Type 0 where
  in_a : RowsReversed rows_of_a rows_of_b x y → OneReversed x y
  in_b : RowsReversed rows_of_b rows_of_a x y → OneReversed x y

-- What is printed is the same, be it counts or a refusal.
abbrev pub PrintsReversed : Type 0
PrintsReversed = (x y : List ℕ) → OneReversed x y → output y ≡ output x

-- ---- what the code keeps

-- Of every input: though the code keeps at most 1,025 points of a string, and 2 in the place of a NaN, the answer is that of all the points as they were read.
abbrev pub KeptCounts : Type 0
KeptCounts = (bytes : List ℕ) → count_state (kept_reading bytes) ≡ count_state (reading bytes)
