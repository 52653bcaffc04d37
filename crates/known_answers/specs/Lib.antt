-- The twelve known answers of docs/TERMS.md, and what is claimed of them.
pub mod Twelve
