-- The laws of what is printed when the input has ended: by the tracks, by the limit, by where the reading stands, and of the whole input.
pub mod Reports
