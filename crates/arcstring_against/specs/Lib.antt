-- The definitions of two strings held against each other.
pub mod Against
