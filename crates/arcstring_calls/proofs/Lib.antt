-- What the proofs of the calls for C share.
mod Runs
