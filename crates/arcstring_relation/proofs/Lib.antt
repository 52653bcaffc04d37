-- The laws of comparisons, for others to cite: `Relations`, the theorem of `specs/RelationLaws.antt` among them.
pub mod Relations
