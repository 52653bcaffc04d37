-- The definitions of turn orientations and midpoints.
pub mod Measure
