-- The definitions of the comparisons that simplify copies.
pub mod Simplified
