-- The definitions of the tests of side values.
pub mod Sides
