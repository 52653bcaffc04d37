-- The laws of pairs of legs. For others to cite: `PairLaws` and `MarginLaws`, the theorems of `specs/PairLaws.antt`; `Finite` with `AcceptedLegs`; and what
-- callers' proofs need, `Classes` and `Aparts`.
pub mod PairLaws
pub mod MarginLaws
pub mod Finite
pub mod AcceptedLegs
pub mod Classes
pub mod Aparts
