-- The laws of marks. For others to cite: `MarkLaws` and `TurnedMarks`, the theorems of `specs/MarkLaws.antt`; and `HoldingLegs`, of the first leg of a string
-- that holds a mark. The rest serves these and the functions' proofs.
pub mod MarkLaws
pub mod TurnedMarks
pub mod HoldingLegs
mod Cases
