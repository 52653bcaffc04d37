-- The laws of the comparisons that simplify copies. All serve the functions' proofs.
mod Copies
mod Equals
mod Overlaps
