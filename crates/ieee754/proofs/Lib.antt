-- The laws of the kit's floats, all for others to cite: of joined tests (`Tests`), of values and signs (`Rounding`, `Arithmetic`, `ByValue`, `SameFloats`,
-- `Comparisons`, `Zeros`), of powers of two (`Powers`), of their order (`Order` and `Products`, by `Fractions`), of sizes (`Bounds`), and of how far rounded
-- operations lie from the exact ones (`Units`, `Spacing`, `Rounded`, `Operations`, in the words of `Closeness`).
pub mod Tests
pub mod Rounding
pub mod Arithmetic
pub mod ByValue
pub mod SameFloats
pub mod Comparisons
pub mod Zeros
pub mod Powers
pub mod Fractions
pub mod Order
pub mod Products
pub mod Bounds
pub mod Units
pub mod Spacing
pub mod Closeness
pub mod Rounded
pub mod Operations
