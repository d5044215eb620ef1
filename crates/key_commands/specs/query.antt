pub mod PublicPages
pub mod Openings
pub mod Results
pub mod Renaming
