-- The definitions of the numbers that the calls for C answer, beside those of arcstring_put.
pub mod Numbers
