pub mod Openings
pub mod Views
pub mod Renaming
