-- The definitions of what a place lent by a C program holds after a call.
pub mod Put
