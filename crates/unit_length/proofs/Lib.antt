-- `UnitLength` and `WorstPoints` have the laws of `specs/UnitLaws.antt`, for others to cite. The rest serves these.
pub mod UnitLength
pub mod WorstPoints
mod Coordinate
mod Length
mod Assembly
mod Tolerance
