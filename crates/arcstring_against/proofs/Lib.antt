-- The laws of two strings held against each other, for the proofs of the comparisons too.
pub mod Against
