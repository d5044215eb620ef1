pub mod Cursors
pub mod Merges
pub mod Moving
pub mod Since
pub mod Spared
