-- The laws of reading: what a change of the row or of the first column makes of what is held, and a byte by where it stands.
mod Held
