-- The definitions of the season report: the machine over bytes (`Season`), what is printed (`Output`); and what is claimed of it: of a season written out
-- (`SeasonText`), and of every input (`SeasonLaws`). `Kept` and `Held` serve inner contracts,
-- `Pieces` those of a program that reads its input piece by piece.
pub mod Season
pub mod SeasonText
pub mod Output
pub mod Kept
pub mod Held
pub mod Pieces
pub mod SeasonLaws
