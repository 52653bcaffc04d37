-- The definitions of cutting strings: one cut, and the walks of arcstring_cut that make them. `Pieces` and `Standing` serve inner contracts alone.
pub mod Cut
pub mod Pieces
pub mod Standing
