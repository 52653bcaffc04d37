-- The definitions of comparisons, and what is claimed of `contains` (`RelationLaws`).
pub mod Relation
pub mod RelationLaws
