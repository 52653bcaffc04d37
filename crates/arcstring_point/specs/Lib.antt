-- The definitions of the calls on single points.
pub mod Point
