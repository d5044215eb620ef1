pub mod Lines
pub mod Openings
pub mod Sessions
pub mod Results
pub mod Preparing
pub mod Making
pub mod Running
pub mod Renaming
