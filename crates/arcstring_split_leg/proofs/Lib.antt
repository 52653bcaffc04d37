-- The laws of split legs. For others to cite: `Uncut`. The rest serves the functions' proofs.
pub mod Uncut
mod LegPairs
mod LegCuts
mod LegSplits
mod SplitLegAnswers
