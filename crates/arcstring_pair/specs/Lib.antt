-- The definitions of a pair of legs, and what is claimed of it (`PairLaws`) and of the floats that it is judged by (`FiniteLaws`).
pub mod Pair
pub mod PairLaws
pub mod FiniteLaws
