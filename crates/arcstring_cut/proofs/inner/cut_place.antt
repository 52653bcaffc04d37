-- The laws of the walks that cut pieces in place, for the functions' proofs.
mod CutWalks
mod CutPlaces
