-- The definitions of the season report's lines: permille, and the text; and what is claimed of them (`PermilleLaws`, `ReportLaws`).
pub mod Permille
pub mod Report
pub mod PermilleLaws
pub mod ReportLaws
