pub mod Directories
pub mod Indexes
pub mod Searches
pub mod Holding
pub mod Laws
pub mod Ids
