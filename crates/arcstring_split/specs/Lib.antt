-- The definitions of splitting strings. `Handed` serves inner contracts alone.
pub mod Split
pub mod BuoyLaws
pub mod Handed
