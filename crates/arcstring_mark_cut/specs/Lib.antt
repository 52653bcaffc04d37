-- The definitions of a string cut at marks, and what is claimed of it (`CutLaws`, `BuoyLaws`). `Standing` and `OpenedPieces` serve inner contracts alone.
pub mod CutAtMarks
pub mod CutLaws
pub mod BuoyLaws
pub mod Standing
pub mod OpenedPieces
