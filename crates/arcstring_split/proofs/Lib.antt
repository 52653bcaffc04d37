-- The laws of split strings. For others to cite: `SplitsWithout`, the theorems of `specs/BuoyLaws.antt`. `Natural` serves it.
pub mod SplitsWithout
mod Natural
