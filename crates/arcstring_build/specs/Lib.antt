-- The definitions of building, and what is claimed of built strings and of the numbers that their vertices carry.
pub mod Build
pub mod BuildLaws
pub mod BuoyLaws
