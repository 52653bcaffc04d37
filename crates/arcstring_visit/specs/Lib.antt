-- The definitions of the pairs that the walk visits. They serve inner contracts alone.
pub mod Visit
