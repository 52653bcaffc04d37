-- The definitions of lists and strings, of legs and of what is written. `Splice`, `Positions` and `Work` serve inner contracts alone.
pub mod Points
pub mod Splice
pub mod Positions
pub mod Leg
pub mod Written
pub mod BuoyLaws
pub mod Work
