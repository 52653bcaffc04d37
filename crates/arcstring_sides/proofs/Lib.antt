-- The laws of the tests of side values, for the proofs of the pair test too.
pub mod Signs
pub mod Margins
pub mod Aparts
