-- The proof of what is claimed.
pub mod SameMarks
