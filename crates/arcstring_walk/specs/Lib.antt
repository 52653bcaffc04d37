-- The definitions of walking, and what is claimed of the numbers that walked vertices carry.
pub mod Walk
pub mod BuoyLaws
