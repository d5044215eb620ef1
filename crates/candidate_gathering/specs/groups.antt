pub mod Members
pub mod Contents
pub mod Stages
pub mod Given
pub mod Begins
pub mod Steps
pub mod Ends
