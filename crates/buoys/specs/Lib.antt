-- What is claimed of the numbers that vertices carry, over every call that writes a string.
pub mod GeometryAlone
