-- The laws of a track that has ended: the lines with its line, and what it comes to.
pub mod TrackLines
