-- The laws of walking. `WalksWithout`, the theorems of `specs/BuoyLaws.antt`, is for others to cite; `Walks` serves this crate alone.
pub mod WalksWithout
mod Walks
