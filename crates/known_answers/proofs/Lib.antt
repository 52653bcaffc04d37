-- The twelve known answers, by one proof.
pub mod TwelveAnswers
