-- What it is to have length 1, nearly, and what is claimed of normalised points.
pub mod UnitPoint
pub mod UnitLaws
