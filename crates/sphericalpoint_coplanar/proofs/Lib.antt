-- The laws of the test of three points, for the proofs of `src/`.
mod Cases
mod FarOff
