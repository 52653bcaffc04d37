-- The definitions of answers and refusals, and of the checks of what is handed in.
pub mod Answer
pub mod Check
