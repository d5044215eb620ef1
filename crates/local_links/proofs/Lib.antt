pub mod Desks
pub mod HandedOut
pub mod Sessions
pub mod Short
pub mod Within
pub mod Told
