-- The definitions of a mark on a leg and on a string, and what is claimed of them (`MarkLaws`). `MarkParts` serves inner contracts alone.
pub mod Mark
pub mod MarkParts
pub mod MarkLaws
