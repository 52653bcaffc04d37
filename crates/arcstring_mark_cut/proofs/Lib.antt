-- The laws of strings cut at marks. For others to cite: `CutLaws` and `CallLaws`, the theorems of `specs/CutLaws.antt`, and `CutsWithout`, the theorem of
-- `specs/BuoyLaws.antt`. The rest serves these, or the functions' proofs.
pub mod CutLaws
pub mod CallLaws
pub mod CutsWithout
mod InTurn
mod OnePieceCut
mod FoundCut
mod Stages
mod Natural
mod InPieces
mod OpenPieces
mod MarkCuts
mod PieceEnds
mod MarkWalks
mod EachMark
mod OpenedStrings
mod HandedPieces
mod CutStrings
