-- A part of a list written over: what stands in `old` from position `at` on is replaced by `new`, and what lies past that stays. Definitions only.
use Rattle.std.specs.Prelude.{List, ◌++◌, ℕ, ◌+◌, length, take, drop}

unfoldable pub splice : {A : Type 0} → List A → ℕ → List A → List A
splice old at new = take at old ++ (new ++ drop (at + length new) old)
