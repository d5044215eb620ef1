pub mod Blocks
pub mod Causes
pub mod Items
pub mod Paces
