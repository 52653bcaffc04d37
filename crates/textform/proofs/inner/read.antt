-- The laws of reading: the float of a word, a digit's value, what stands at each place, a float kept, a byte, whole triples.
mod Words
pub mod Digits
pub mod Places
pub mod Keeping
mod Reading
pub mod Triples
