-- The laws of simplified strings. For others to cite: `SimplifiedAccepted`, `SimplifiedTwice` (the call, called again) and `SimplifiesWithout` (simplifying
-- never depends on the numbers). `Simplifies` serves the functions' proofs.
pub mod SimplifiedAccepted
pub mod SimplifiedTwice
pub mod SimplifiesWithout
mod Simplifies
