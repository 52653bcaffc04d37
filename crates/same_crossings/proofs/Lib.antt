-- The laws of counts and clean points. For others to cite: `Counting`, `Rooms` and `Runs`, the theorems of `specs/CountLaws.antt`; `Demand3`, those of
-- `specs/Changes.antt`; `InBuffers` and `BuiltChanges`, those of the files of the same names; `Margins`, those of `specs/MarginLaws.antt`; `AcceptedAgain`,
-- that the order of points is nothing to the checks; and `LegLists`, of the legs of a string that is walked backwards or restarted. The rest serves these.
pub mod Counting
pub mod Rooms
pub mod Runs
pub mod Demand3
pub mod InBuffers
pub mod BuiltChanges
pub mod Margins
pub mod AcceptedAgain
pub mod LegLists
mod PointValues
mod NormalValues
mod TurnedLegs
mod PairOrders
mod SamePairs
