-- The laws of pieces that stand in lists. For the walks of arcstring_cut and the split of a string to cite: `CutLists`. The rest serves it and the functions'
-- proofs.
pub mod CutLists
mod CutAnswers
mod OnePiece
