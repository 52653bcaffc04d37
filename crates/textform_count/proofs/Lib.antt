-- The laws of the counting program. For others to cite: `KeptCounts` and `CountLaws`, the theorems of `specs/CountLaws.antt`; and `Pieces`, for the program,
-- which reads its input piece by piece. The laws beside the functions of `inner` serve their proofs.
pub mod KeptCounts
pub mod CountLaws
pub mod Pieces
