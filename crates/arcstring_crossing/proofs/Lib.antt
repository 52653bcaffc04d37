-- The laws of planes kept for many pairs. All serve the functions' proofs.
mod KeptPlanes
mod Flagged
