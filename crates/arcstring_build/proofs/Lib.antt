-- The laws of building. For others to cite: `BuiltAccepted`, the theorems of `specs/BuildLaws.antt`; `BuildsWithout`, those of `specs/BuoyLaws.antt`; and
-- `Builds`, what callers' proofs need.
pub mod Builds
pub mod BuiltAccepted
pub mod BuildsWithout
