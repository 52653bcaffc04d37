-- What is claimed of the marks of a string that is walked backwards or restarted.
pub mod SameMarks
