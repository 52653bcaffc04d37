-- The laws of the season report. For others to cite: `Outputs`, `TrackNumbers`, `KeptSeasons` and `Columns`, the theorems of `specs/SeasonLaws.antt`;
-- `SeasonTexts` and `SeasonsRead`, those of `specs/SeasonText.antt`; `TrackCounts`, tracks counted one after another; and `Pieces`, for a program that reads
-- its input piece by piece. The laws beside the functions of `inner` serve their proofs.
mod PlainReading
pub mod TrackCounts
pub mod KeptSeasons
pub mod Columns
pub mod TrackNumbers
pub mod Outputs
pub mod SeasonTexts
pub mod SeasonsRead
pub mod Pieces
