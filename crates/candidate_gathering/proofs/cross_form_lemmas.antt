pub mod Areas
pub mod Writing
pub mod Sets
pub mod Beginnings
pub mod WritingOn
pub mod KeepingOn
pub mod Turning
pub mod Staying
