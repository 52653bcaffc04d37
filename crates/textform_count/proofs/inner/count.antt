-- The laws of counting: strings built and counted, what is printed at the end of the input, the output of a whole input.
pub mod BuiltStrings
mod Concluded
pub mod Outputs
