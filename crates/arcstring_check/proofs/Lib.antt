-- The laws of answers and checks, for callers' proofs to cite.
pub mod Answers
pub mod Checks
pub mod Rooms
