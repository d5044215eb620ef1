pub mod Places
pub mod Filters
pub mod Laws
pub mod Examples
