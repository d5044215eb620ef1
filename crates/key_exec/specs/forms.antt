pub mod Links
pub mod Stages
pub mod Contents
pub mod Costs
pub mod Given
pub mod Turns
pub mod Steps
