-- The definition of nearness.
pub mod Near
