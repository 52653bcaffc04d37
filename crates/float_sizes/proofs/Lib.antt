-- The laws of sizes, for the proofs of `src/`.
mod Sizes
mod Magnitudes
