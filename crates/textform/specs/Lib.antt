-- The definitions of the text form: the machine over bytes, a row written out, and what is printed; and what is claimed of the reading (`TextLaws`). `Kept`
-- and `Held` serve inner contracts, `Pieces` those of a program that reads its input piece by piece.
pub mod Text
pub mod Written
pub mod Print
pub mod Digits
pub mod Kept
pub mod Held
pub mod Pieces
pub mod TextLaws
