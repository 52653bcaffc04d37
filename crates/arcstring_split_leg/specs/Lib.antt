-- The definitions of splitting legs. `Legs` and `Worked` serve inner contracts alone.
pub mod SplitLeg
pub mod Legs
pub mod Worked
