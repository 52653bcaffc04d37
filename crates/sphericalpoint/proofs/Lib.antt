-- The laws of points. For others to cite: `Tolerances`, that the constants of the code are the floats nearest to their decimals; `VectorValues`, of vectors by
-- value, where +0 and -0 are one; and `VectorFloats`, of vectors float by float. The rest serves the proofs of `src/`.
pub mod Tolerances
pub mod VectorValues
pub mod VectorFloats
mod Cases
mod Magnitudes
