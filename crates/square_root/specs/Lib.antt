-- The square root of a float: which float it is (`Sqrt`), what it is to be the nearest (`NearestRoot`), and what is claimed (`RootLaws`). `RootStep` serves
-- inner contracts alone.
pub mod Sqrt
pub mod NearestRoot
pub mod RootStep
pub mod RootLaws
