-- The laws of points on strings. For others to cite: `NearEntries`, the theorem of `specs/AlongLaws.antt` among them; `FirstFound`, of a walk to the first
-- element that passes a test; `ByPosition`, of chains over positions; and `Accepted`, of a string that the checks accepted or refused. The rest serves the
-- functions' proofs.
pub mod NearEntries
pub mod FirstFound
pub mod ByPosition
pub mod Accepted
mod AlongLegs
