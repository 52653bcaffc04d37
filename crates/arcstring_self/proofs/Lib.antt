-- The laws of the self listing. All serve the functions' proofs.
mod SelfBounds
mod NormalizedListings
mod SelfVisits
