pub mod Files
pub mod Directory
pub mod Levels
pub mod Faults
pub mod Laws
pub mod Writing
