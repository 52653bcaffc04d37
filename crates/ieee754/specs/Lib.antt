-- The value, the size and the bounds of a float, with what is claimed of them (ValueLaws, BoundLaws), of their order (OrderLaws) and of powers of two
-- (PowerLaws); and, over whole numbers, how near a rounded number is to the exact one, with what is claimed of that (RoundingLaws).
pub mod Value
pub mod Size
pub mod Bound
pub mod ValueLaws
pub mod BoundLaws
pub mod OrderLaws
pub mod PowerLaws
pub mod Units
pub mod Closeness
pub mod RoundingLaws
