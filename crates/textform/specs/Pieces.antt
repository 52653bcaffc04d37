-- The input as a program reads it: in pieces, one after another. No contract can say what is read from a descriptor. Those of the programs say: there are
-- such pieces, and what is held, or printed, is that of all of them in a row. Definitions only.
use mathlib.Core.List.{List, flatten, Memᴰ}
use Rattle.std.specs.Prelude.{ℕ, ◌≤◌, length, Result, Ok, Err, Option}
use Rattle.std.specs.Io.KnownBytes.{Consumes}

-- the bytes of a buffer
abbrev pub most_read : ℕ
most_read = 4096

-- at least 1 byte, and at most those of a buffer
abbrev pub OneRead : List ℕ → Type 0
OneRead piece = (1 ≤ length piece) × (length piece ≤ most_read)

-- What holds of the bytes of some pieces, one after another: there are pieces, each of one read, and all their bytes in a row are such as P says.
pub record OfPieces (P : List ℕ → Type 0) : Type 0 where
  pub pieces : List (List ℕ)
  pub each : (piece : List ℕ) → Memᴰ piece pieces → OneRead piece
  pub holds : P (flatten pieces)

-- The same of what a reader gave. One that tells what it has left had the bytes of these pieces before, and has what came after them: none was passed over, and
-- none taken twice.
abbrev pub OfReads : Option (List ℕ) → Option (List ℕ) → (List ℕ → Type 0) → Type 0
OfReads before after P = OfPieces (λ (bytes : List ℕ). Consumes before after bytes × P bytes)

-- how many bytes a read gave, none where it failed
abbrev pub given : {E : Type 0} → Result ℕ E → ℕ
given (Ok n) = n
given (Err e) = 0
