-- The laws of the text form. For others to cite: `Readings`, what is kept of a reading; `Rows`, where a row stands past its name, a theorem of
-- `specs/TextLaws.antt`, and what stays the same within a row; `Turns`, the bytes in turn and in pieces, the other theorem; `Written`, a row written out is
-- read as its floats; `Peeled`, what is well formed was written out; and, for a program that reads its input piece by piece, `Pieces`. The laws beside the
-- functions of `inner` serve their proofs.
pub mod Readings
pub mod Rows
pub mod Turns
pub mod Written
pub mod Peeled
pub mod Pieces
