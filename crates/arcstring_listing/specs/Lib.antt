-- The definitions of the counts and listings of two strings, of a leg and a string, and of a string with itself.
pub mod Listing
