-- The definitions of simplifying, round by round. `RoundLaws`: what is claimed of it. `Kept` serves inner contracts alone.
pub mod Rounds
pub mod RoundLaws
pub mod Kept
