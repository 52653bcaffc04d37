-- The laws of the season report's lines. For others to cite: `PermilleLaws` and `ReportLaws`, the theorems of `specs/PermilleLaws.antt` and
-- `specs/ReportLaws.antt`. The laws beside the functions of `inner` serve their proofs.
pub mod PermilleLaws
pub mod ReportLaws
mod Quotients
