-- The laws of counting pairs and of writing what they keep, for arcstring_visit, arcstring_listing and others to cite: what is counted up (`Tallies`) and what
-- one pair writes (`Marks`).
pub mod Tallies
pub mod Marks
