-- The laws of turns and midpoints, for the functions' proofs.
mod Turns
mod Midpoints
