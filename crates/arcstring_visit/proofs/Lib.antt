-- The laws of the walk over pairs, for arcstring_listing and others to cite: which pairs it visits and how many they are (`Rows`), and what it has written and
-- counted (`Walks`). The rest serves the functions' proofs.
pub mod Rows
pub mod Walks
mod Bounds
mod Sifted
