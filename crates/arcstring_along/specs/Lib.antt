-- The definitions of a point on a string, and what is claimed of near lists (`AlongLaws`).
pub mod OnString
pub mod AlongLaws
