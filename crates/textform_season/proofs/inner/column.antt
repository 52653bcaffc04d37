-- The laws of the first column: one digit more, by the tests of its value and of the number.
pub mod Digits
