-- The laws of printing: the decimal digits of a number, the whole text.
pub mod Decimals
pub mod Printed
