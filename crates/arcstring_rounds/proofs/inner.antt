-- The laws of the rounds: which vertices are judged unnecessary (`Judgements`), what is removed, as the source removes it and in one pass (`Removals`,
-- `OneRound`), and rounds one after the other (`Rounds`); and of the functions that do it (`Keeps`, `RoundSteps`).
pub mod Judgements
pub mod Removals
pub mod OneRound
pub mod Rounds
mod Keeps
pub mod RoundSteps
