-- Vectors and points, as sphericalpoint.rs has them.
pub mod Vector
pub mod Point
