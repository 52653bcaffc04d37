-- The laws of strings with vertices inserted. For others to cite: `InsertsWithout`, the theorems of `specs/BuoyLaws.antt`; `Steps`, `LegFrom`; and what the
-- splits share with inserting, `BothChecks`, `Natural`, `Limits`, `Shifts`, `Moved`, `Inserted`. The rest serves these and the functions' proofs.
pub mod InsertsWithout
pub mod Steps
pub mod LegFrom
pub mod BothChecks
pub mod Natural
pub mod Limits
pub mod Shifts
pub mod Moved
pub mod Inserted
mod InsertWalks
mod Inserts
mod InsertAnswers
