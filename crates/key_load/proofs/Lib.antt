pub mod Endings
pub mod Sums
mod Renamed
