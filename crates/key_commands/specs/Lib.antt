pub mod query
pub mod local
pub mod generate
pub mod Doing
pub mod Endings
pub mod Judging
pub mod Renaming
