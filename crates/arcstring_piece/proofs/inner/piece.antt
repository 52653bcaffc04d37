-- The laws of the two pieces of a cut. `TwoLists` and `BuiltPieces` serve the proofs of `replace` too.
pub mod TwoLists
mod HalfPoints
pub mod BuiltPieces
