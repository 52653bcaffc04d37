-- The laws of lists, legs, and of vertices with numbers and without. For others to cite: `WithoutBuoys`, the theorem of `specs/BuoyLaws.antt`, and what
-- callers' proofs need.
pub mod Flat
pub mod Splices
pub mod Moves
pub mod Firsts
pub mod Numbered
pub mod Written
pub mod WithoutBuoys
pub mod Legs
