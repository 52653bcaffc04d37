-- The definitions of the crossings of a string with itself.
pub mod SelfListing
