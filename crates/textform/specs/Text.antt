-- The text form of two strings, read byte by byte: a line of names, `string x y z`, and then a row for each point: A or B, three floats of 16 hexadecimal
-- digits each after a blank, and a line feed. Definitions only.
use Rattle.std.specs.Prelude.{Bool, true, false, List, [], ◌∷◌, ◌++◌, ℕ, ◌+◌, ◌-◌, ◌*◌, ◌%◌, get_or, ltb, leb, eqb, Float}
use Rattle.std.proofs.Math.Option.{Option, none, some}
use Rattle.std.specs.Float.{binary64}
use Rattle.std.specs.Float.Ieee.{of_bits}
use Rattle.arcstring_check.specs.Answer.{pick}
use Rattle.textform.specs.declared.inner.read.Part.{Part}
use Rattle.textform.specs.declared.inner.read.Part.TheVariants as P

-- ---- the bytes

abbrev pub blank : ℕ
blank = 32

abbrev pub line_feed : ℕ
line_feed = 10

-- the names of the two strings, A and B
abbrev pub letter_a : ℕ
letter_a = 65

abbrev pub letter_b : ℕ
letter_b = 66

-- ---- what stands at each place

-- `string x y z` and a line feed
abbrev pub names_line : List ℕ
names_line = 115 ∷ 116 ∷ 114 ∷ 105 ∷ 110 ∷ 103 ∷ 32 ∷ 120 ∷ 32 ∷ 121 ∷ 32 ∷ 122 ∷ 10 ∷ []

-- The names line stands at places 0 to 12, a row at 13 to 65; place 66 is where malformed input ends up.
abbrev pub row_start : ℕ
row_start = 13

-- past a row's name and the blank after it
abbrev pub past_name : ℕ
past_name = 15

abbrev pub row_last : ℕ
row_last = 65

abbrev pub malformed_place : ℕ
malformed_place = 66

-- a row's bytes: the name, three floats, the line feed
abbrev pub row_bytes : ℕ
row_bytes = 53

-- where in its row the line feed stands
abbrev pub line_feed_at : ℕ
line_feed_at = 52

-- a float's bytes, the blank before it among them, and where in them the last digit stands
abbrev pub float_bytes : ℕ
float_bytes = 17

abbrev pub last_digit_at : ℕ
last_digit_at = 16

unfoldable pub float_part : ℕ → Part
float_part k = pick (eqb k 0) (P.Exactly blank) (pick (eqb k last_digit_at) P.LastDigit P.Digit)

unfoldable pub row_part : ℕ → Part
row_part k = pick (eqb k 0) P.Name (pick (eqb k line_feed_at) (P.Exactly line_feed) (float_part ((k - 1) % float_bytes)))

unfoldable pub part_at : ℕ → Part
part_at place =
    pick (ltb place row_start) (P.Exactly (get_or names_line place 0)) (pick (ltb place malformed_place) (row_part (place - row_start)) P.Nothing)

-- after a row comes the next one
unfoldable pub place_after : ℕ → ℕ
place_after place = pick (eqb place row_last) row_start (place + 1)

-- 0 to 9, A to F
unfoldable pub hex_digit : ℕ → Option ℕ
hex_digit byte =
    pick (leb 48 byte) (pick (ltb byte 58) (some (byte - 48)) (pick (leb 65 byte) (pick (ltb byte 71) (some (byte - 55)) none) none)) none

-- ---- the machine

-- the bytes in turn, whatever each of them does
unfoldable pub in_turn : {S : Type 0} → (S → ℕ → S) → S → List ℕ → S
in_turn step s [] = s
in_turn step s (byte ∷ bytes) = in_turn step (step s byte) bytes

-- The place of the next byte; whether its row is B's; the digits of its float so far, as a number; and the floats of A and of B.
pub record State : Type 0 where
  pub place : ℕ
  pub second : Bool
  pub word : ℕ
  pub a : List Float
  pub b : List Float

abbrev pub start : State
start = record { place = 0; second = false; word = 0; a = []; b = [] }

abbrev pub malformed : State → State
malformed s = record { place = malformed_place; second = s.second; word = 0; a = s.a; b = s.b }

-- on to the next place: in a row of this string, with these digits
abbrev pub onward : Bool → ℕ → State → State
onward second word s = record { place = place_after s.place; second = second; word = word; a = s.a; b = s.b }

-- past the name of its string and the blank after it, at the start of a row
abbrev pub in_row : Bool → State → State
in_row second s = record { place = past_name; second = second; word = 0; a = s.a; b = s.b }

-- without the floats of B
abbrev pub without_second : State → State
without_second s = record { place = s.place; second = s.second; word = s.word; a = s.a; b = [] }

abbrev pub if_digit : Option ℕ → (ℕ → State) → State → State
if_digit none f other = other
if_digit (some d) f other = f d

-- How a float is added to its string's list is an argument, since the code keeps only the first points of a list.
module _ (add : Float → List Float → List Float) where
  -- a whole float goes to the string of its row
  abbrev pub with_float : Float → State → State
  with_float x s = record {
    place = place_after s.place;
    second = s.second;
    word = 0;
    a = pick s.second s.a (add x s.a);
    b = pick s.second (add x s.b) s.b;
  }

  abbrev pub step_at : Part → State → ℕ → State
  step_at (P.Exactly c) s byte = pick (eqb byte c) (onward s.second 0 s) (malformed s)
  step_at P.Name s byte = pick (eqb byte letter_a) (onward false 0 s) (pick (eqb byte letter_b) (onward true 0 s) (malformed s))
  step_at P.Digit s byte = if_digit (hex_digit byte) (λ (d : ℕ). onward s.second (16 * s.word + d) s) (malformed s)
  step_at P.LastDigit s byte = if_digit (hex_digit byte) (λ (d : ℕ). with_float (of_bits binary64 (16 * s.word + d)) s) (malformed s)
  step_at P.Nothing s byte = malformed s

  unfoldable pub step_with : State → ℕ → State
  step_with s byte = step_at (part_at s.place) s byte

  abbrev pub fed_with : State → List ℕ → State
  fed_with = in_turn step_with

-- every float at the end of its list
abbrev pub append : Float → List Float → List Float
append x l = l ++ (x ∷ [])

abbrev pub step : State → ℕ → State
step = step_with append

abbrev pub fed : State → List ℕ → State
fed = fed_with append

-- the input read from its first byte to its last
unfoldable pub reading : List ℕ → State
reading bytes = fed start bytes

-- The input is well formed where it ends after the names line or after a row.
unfoldable pub well_formed : State → Bool
well_formed s = eqb s.place row_start
