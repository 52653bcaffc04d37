-- The definition of the call that simplifies, over the rounds of arcstring_rounds. `SimplifyLaws` and `BuoyLaws`: what is claimed of it.
pub mod Simplify
pub mod SimplifyLaws
pub mod BuoyLaws
