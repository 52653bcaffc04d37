-- Three points on one leg, as sphericalpoint.rs has it.
pub mod Coplanar
