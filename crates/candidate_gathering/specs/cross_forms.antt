pub mod Stages
pub mod Contents
pub mod Given
pub mod Turns
pub mod Laws
pub mod Steps
