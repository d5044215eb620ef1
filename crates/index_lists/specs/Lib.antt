pub mod Ranks
pub mod Lists
pub mod Laws
pub mod Numbering
