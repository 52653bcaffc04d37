-- The laws of simplified lists. For others to cite: `Simplified` (simplifying twice is simplifying once, an open string is never refused, what simplifying
-- keeps), `Natural` (it goes by the points alone) and `Left` (the positions that are left, for arcstring_simplify). The rest serves these and the functions'
-- proofs.
pub mod Simplified
pub mod Natural
pub mod Left
