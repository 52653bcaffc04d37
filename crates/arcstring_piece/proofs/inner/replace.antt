-- The laws of a piece that is replaced by two, list by list. For the walks of arcstring_cut, the split of a string and the cut at marks to cite: `Sums`,
-- `Pieces`, `Cuts`. The rest serves these and the functions' proofs.
pub mod Sums
pub mod Pieces
pub mod Cuts
mod Replaced
mod BothHalves
