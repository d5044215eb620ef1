pub mod Texts
pub mod Numbers
pub mod Told
pub mod Moving
pub mod Steps
pub mod Deciding
pub mod Few
