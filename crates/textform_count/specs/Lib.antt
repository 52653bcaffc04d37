-- The definitions of the counting program: what is counted, what is printed; and what is claimed of it (`CountLaws`). `Plain` serves inner contracts, `Pieces`
-- those of the program, which reads its input piece by piece.
pub mod Print
pub mod Count
pub mod Plain
pub mod Pieces
pub mod CountLaws
