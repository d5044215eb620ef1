pub mod Members
pub mod Uniting
pub mod Writing
pub mod Seeking
pub mod Going
pub mod Turning
pub mod Ending
pub mod Staying
