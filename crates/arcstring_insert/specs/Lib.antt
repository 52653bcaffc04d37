-- The definitions of inserting vertices. `Steps` has what inserting and splitting share.
pub mod Steps
pub mod Insert
pub mod Worked
pub mod BuoyLaws
