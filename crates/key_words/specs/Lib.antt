pub mod Blocks
pub mod KeyApp
pub mod Refusals
pub mod Plans
pub mod Words
pub mod Views
pub mod Examples
