-- The laws of listings: for the functions' proofs, here and of the self listing.
pub mod Bounds
pub mod Listings
pub mod Turns
pub mod Visits
