-- The laws of the square root. `WholeRoots`, `NearestLaw`, `RootClose` and `KnownRoots` are for others to cite; the rest serves the proofs of `src/lib.rt`.
pub mod WholeRoots
pub mod NearestLaw
pub mod RootClose
pub mod KnownRoots
mod Squares
mod Zimmermann
mod TableRule
mod Tower
mod Halfway
mod Units
mod Patterns
mod Placed
mod NearOne
mod Edges
mod Spacing
